-- Request R-8: all choices of the four masks, "locked slowest, then limit, motor, coupled fastest".
use Rattle.std.specs.Prelude.{ℕ, ◌/◌, ◌%◌, ◌≤◌, ◌<◌, ◌≡◌, length, get_or}
use mathlib.Core.List.{List, [], ◌∷◌, flat_map}
use Rattle.rows.specs.RowIds.{no_masks}
use Rattle.rows.specs.declared.generic_joint.Masks.{Masks}

abbrev pub masks : ℕ → ℕ → ℕ → ℕ → Masks
masks locked limit motor coupled = record { locked_axes = locked; limit_axes = limit; motor_axes = motor; coupled_axes = coupled }

-- a list for each mask, one after the other
abbrev pub each_mask : {A : Type 0} → (ℕ → List A) → List A
each_mask f = flat_map f (0 ∷ 1 ∷ 2 ∷ 3 ∷ 4 ∷ 5 ∷ 6 ∷ 7 ∷ [])

unfoldable pub choices : List Masks
choices = each_mask (λ locked. each_mask (λ limit. each_mask (λ motor. each_mask (λ coupled. masks locked limit motor coupled ∷ []))))

-- entry n, counted from 0
abbrev pub entry : ℕ → Masks
entry n = get_or choices n no_masks

-- the choice that n's digits to the base 8 give
unfoldable pub choice_of : ℕ → Masks
choice_of n = masks (n / 512) (n / 64 % 8) (n / 8 % 8) (n % 8)

-- ---- what is shown of the list

-- a choice that refusal 3 lets pass
pub record Legal (k : Masks) : Type 0 where
  pub locked : k.locked_axes ≤ 7
  pub limit : k.limit_axes ≤ 7
  pub motor : k.motor_axes ≤ 7
  pub coupled : k.coupled_axes ≤ 7

-- k stands there, and just the one time
pub record Once (k : Masks) : Type 0 where
  pub place : ℕ
  pub inside : place < length choices
  pub there : entry place ≡ k
  pub only : (n : ℕ) → n < length choices → entry n ≡ k → n ≡ place
