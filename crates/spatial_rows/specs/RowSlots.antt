-- The ids of a joint in space one by one, as the builder's loop takes them: twelve slots in the order of `row_ids`, each named or not. Slots 0 to 2 are
-- motors, 3 to 5 the angular locks, 6 to 8 the linear ones, 9 to 11 limits.
use Rattle.std.specs.Prelude.{ℕ, ◌-◌, Bool, cond, List, [], ◌∷◌, ◌++◌, ltb}
use Rattle.rows.specs.RowIds.{is_locked, is_motor, is_limit}
use Rattle.rows.specs.RowSlots.{bits_of}
use Rattle.rows.specs.declared.generic_joint.Masks.{Masks}
use Rattle.rows.specs.declared.joint_velocity_constraint.WritebackId.{WritebackId}
use Rattle.rows.specs.declared.joint_velocity_constraint.WritebackId.TheVariants.{Dof, Limit, Motor}
use Rattle.spatial_rows.specs.SpatialMasks.{spatial_masks}

unfoldable pub slot_id : ℕ → WritebackId
slot_id s = cond (ltb s 3) (Motor s) (cond (ltb s 6) (Dof s) (cond (ltb s 9) (Dof (s - 6)) (Limit (s - 9))))

-- the answers of a test at the three linear axes, and at the three angular ones
abbrev pub linear_axes : (ℕ → Bool) → List Bool
linear_axes p = p 0 ∷ p 1 ∷ p 2 ∷ []

abbrev pub angular_axes : (ℕ → Bool) → List Bool
angular_axes p = p 3 ∷ p 4 ∷ p 5 ∷ []

-- which slots are named
abbrev pub slots : Masks → List Bool
slots k =
    linear_axes (is_motor (spatial_masks k))
    ++ angular_axes (is_locked (spatial_masks k))
    ++ linear_axes (is_locked (spatial_masks k))
    ++ linear_axes (is_limit (spatial_masks k))

-- the same as a number of twelve bits
unfoldable pub slot_bits : Masks → ℕ
slot_bits k = bits_of (slots k)
