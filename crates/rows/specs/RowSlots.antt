-- The ids of a planar joint one by one, as the builder's loop takes them: eleven slots in the order of `row_ids`, each named or not. Slots 0 to 3 are
-- motors, 4 to 6 locks, 7 to 10 limits; the last of the motors and of the limits is F's.
use Rattle.std.specs.Prelude.{ℕ, ◌+◌, ◌-◌, ◌*◌, Bool, not, cond, ◌&&◌, List, [], ◌∷◌, ltb, get_or}
use Rattle.rows.specs.declared.generic_joint.Masks.{Masks}
use Rattle.rows.specs.declared.joint_velocity_constraint.WritebackId.{WritebackId}
use Rattle.rows.specs.declared.joint_velocity_constraint.WritebackId.TheVariants.{Dof, Limit, Motor}
use Rattle.rows.specs.RowIds.{is_locked, is_motor, is_limit, is_coupled, some, first_coupled, shares_linear}

-- the axis of a kind's slot: the angular one first, then the linear ones, then f
unfoldable pub slot_axis : ℕ → ℕ → ℕ
slot_axis i f = get_or (2 ∷ 0 ∷ 1 ∷ []) i f

unfoldable pub slot_id : ℕ → ℕ → WritebackId
slot_id s f = cond (ltb s 4) (Motor (slot_axis s f)) (cond (ltb s 7) (Dof (slot_axis (s - 4) f)) (Limit (slot_axis (s - 7) f)))

-- answers as a number's bits, the first one lowest
abbrev pub bits_of : List Bool → ℕ
bits_of [] = 0
bits_of (b ∷ bs) = cond b 1 0 + 2 * bits_of bs

-- the answers of a test at the three axes, in the order of rows
abbrev pub at_axes : (ℕ → Bool) → List Bool
at_axes p = p 2 ∷ p 0 ∷ p 1 ∷ []

-- which slots are named
abbrev pub slots : Masks → List Bool
slots k =
    (is_motor k 2 && not (is_coupled k 2)) ∷ (is_motor k 0 && not (is_coupled k 0)) ∷ (is_motor k 1 && not (is_coupled k 1)) ∷ shares_linear 2 k
    ∷ is_locked k 2 ∷ is_locked k 0 ∷ is_locked k 1
    ∷ (is_limit k 2 && not (is_coupled k 2)) ∷ (is_limit k 0 && not (is_coupled k 0)) ∷ (is_limit k 1 && not (is_coupled k 1)) ∷ some (is_limit k) (first_coupled 2 k) ∷ []

-- the same as a number of eleven bits
unfoldable pub slot_bits : Masks → ℕ
slot_bits k = bits_of (slots k)
