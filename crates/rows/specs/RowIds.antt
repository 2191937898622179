-- Which rows a joint has, from its masks: document 01, "Which rows, in which order". The numbers of linear and of angular axes are parameters:
-- nl linear axes 0, 1, .. come first, and then na angular ones. In the plane nl is 2 and na is 1.
use Rattle.std.specs.Prelude.{ℕ, zero, suc, ◌/◌, ◌%◌, ◌^◌, Bool, false, not, cond, ◌&&◌, ◌||◌, List, [], ◌∷◌, ◌++◌, map, eqb, length}
use Rattle.rows.specs.declared.generic_joint.Masks.{Masks}
use Rattle.rows.specs.declared.joint_velocity_constraint.WritebackId.{WritebackId}
use Rattle.rows.specs.declared.row_ids.RowId.{RowId}
use Rattle.rows.specs.declared.row_ids.RowIds.{RowIds}
use Rattle.rows.specs.declared.joint_velocity_constraint.WritebackId.TheVariants.{Dof, Limit, Motor}

-- bit i of a mask
unfoldable pub has_axis : ℕ → ℕ → Bool
has_axis mask i = eqb (mask / 2 ^ i % 2) 1

-- document 01's L: locked
abbrev pub is_locked : Masks → ℕ → Bool
is_locked k i = has_axis k.locked_axes i

-- M: motor without L
abbrev pub is_motor : Masks → ℕ → Bool
is_motor k i = has_axis k.motor_axes i && not (is_locked k i)

-- T: limit without L
abbrev pub is_limit : Masks → ℕ → Bool
is_limit k i = has_axis k.limit_axes i && not (is_locked k i)

-- C: coupled
abbrev pub is_coupled : Masks → ℕ → Bool
is_coupled k i = has_axis k.coupled_axes i

-- no axis is locked, limited, driven or coupled
abbrev pub no_masks : Masks
no_masks = record { locked_axes = 0; limit_axes = 0; motor_axes = 0; coupled_axes = 0 }

-- n axes from axis i on
abbrev pub axes : ℕ → ℕ → List ℕ
axes i zero = []
axes i (suc n) = i ∷ axes (suc i) n

-- those of a list that pass a test
abbrev pub keep : (ℕ → Bool) → List ℕ → List ℕ
keep p [] = []
keep p (i ∷ is) = cond (p i) (i ∷ keep p is) (keep p is)

abbrev pub some : (ℕ → Bool) → List ℕ → Bool
some p [] = false
some p (i ∷ is) = p i || some p is

-- of a list in ascending order the lowest number, if there is one
abbrev pub lowest : List ℕ → List ℕ
lowest [] = []
lowest (i ∷ is) = i ∷ []

-- F: the lowest set bit of C's linear part, if there is one
abbrev pub first_coupled : ℕ → Masks → List ℕ
first_coupled nl k = lowest (keep (is_coupled k) (axes 0 nl))

-- angular axes come before linear ones
abbrev pub in_order : ℕ → ℕ → List ℕ
in_order nl na = axes nl na ++ axes 0 nl

-- M and C share a linear bit
abbrev pub shares_linear : ℕ → Masks → Bool
shares_linear nl k = some (λ i. is_motor k i && is_coupled k i) (axes 0 nl)

-- group one: the motors outside C, then Motor(F) once if M and C share a linear bit
abbrev pub group_one : ℕ → ℕ → Masks → List WritebackId
group_one nl na k =
    map Motor (keep (λ i. is_motor k i && not (is_coupled k i)) (in_order nl na))
    ++ cond (shares_linear nl k) (map Motor (first_coupled nl k)) []

-- the locks
abbrev pub lock_ids : ℕ → ℕ → Masks → List WritebackId
lock_ids nl na k = map Dof (keep (is_locked k) (in_order nl na))

-- the limits outside C, then Limit(F) if C has a linear bit and T holds F
abbrev pub limit_ids : ℕ → ℕ → Masks → List WritebackId
limit_ids nl na k =
    map Limit (keep (λ i. is_limit k i && not (is_coupled k i)) (in_order nl na)) ++ map Limit (keep (is_limit k) (first_coupled nl k))

-- group two
abbrev pub group_two : ℕ → ℕ → Masks → List WritebackId
group_two nl na k = lock_ids nl na k ++ limit_ids nl na k

-- a joint's ids, in order; their number is the count that `update` returns
unfoldable pub row_ids : ℕ → ℕ → Masks → List WritebackId
row_ids nl na k = group_one nl na k ++ group_two nl na k

-- ---- the ids as an array, the rest filled up

-- a list of at most n values, filled up to n with a filler
abbrev pub filled : {A : Type 0} → ℕ → A → List A → List A
filled zero x l = []
filled (suc n) x [] = x ∷ filled n x []
filled (suc n) x (a ∷ l) = a ∷ filled n x l

abbrev pub row_id : WritebackId → RowId
row_id i = record { id = i }

-- a list of ids in an array of `most` places
abbrev pub ids_filled : ℕ → List WritebackId → List RowId
ids_filled most l = filled most (row_id (Dof 0)) (map row_id l)

-- a list of ids as an array of six, of which the first n are group one
abbrev pub ids_array : ℕ → List WritebackId → RowIds
ids_array n l = record { ids = ids_filled 6 l; first = n; len = length l }

-- the planar joint's ids as an array
unfoldable pub row_ids_array : Masks → RowIds
row_ids_array k = ids_array (length (group_one 2 1 k)) (row_ids 2 1 k)
