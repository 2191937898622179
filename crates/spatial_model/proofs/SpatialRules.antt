-- The rules that only space has: 17 stands right after 3, whose bound is 63 (`checking-order`). 17 tries the limit mask, the motor mask and the coupled one (`limit-past`, `motor-past`, `none-coupled`). Both rules look at the masks as they are handed over, on locked axes, of disabled joints and of joints without a body too (`mask-cases`).
use Prim.Native.Nat.{ℕ, ◌+◌, ◌≤◌, ◌<◌}
use mathlib.Core.Path.{◌≡◌, refl}
use mathlib.Core.Bool.{Bool, false}
use mathlib.Core.List.{List, [], ◌∷◌, map}
use borrow.Author.Tests.{le-ltb, lt-ltb}
use lib.Dec.{eqb}
use lib.IntN.{pos}
use lib.ListN.{replicate}
use lib.Ieee.{Float, fin, lt, is_nan, of_bits}
use Rattle.floats.specs.Scalar.{is_finite}
use Rattle.floats.specs.Sign.{abs_of}
use Rattle.rows.specs.RowIds.{has_axis, row_ids}
use Rattle.multibody.specs.Rules.{Rule, refusal, all}
use Rattle.multibody.specs.Model.{Model, model, world}
use Rattle.multibody.specs.Records.{word}
use Rattle.multibody.specs.JointRows.{joint_ids, row_count, row_masks_at}
use Rattle.multibody.specs.Counts.{body_count, joint_count, row_capacity, rows_before}
use Rattle.multibody.specs.Finite.{passes, passes_from}
use Rattle.multibody.specs.Refusals.{present_or_world, bodies_present, bodies_apart, finite_params, finite_body, finite_joint, model_rules, model_rules_with, storage_rule}
use Rattle.multibody.specs.Calls.{rules_of}
use Rattle.multibody.specs.Calls.Call.{load}
use Rattle.spatial_model.specs.Layout.{words_width, masks_place}
use Rattle.spatial_model.specs.Store.{masks_at, enabled_at, body1_at, body2_at}
use Rattle.spatial_model.specs.Refusals.{linear_axes, masks_fit, linear_alone}
use Rattle.spatial_model.specs.Spatial.{spatial}

-- document 01's order, with 17 right after 3
checking-order : (m : Model) (arguments : Bool) → map (λ (r : Rule). r.number) (model_rules spatial m arguments) ≡ 1 ∷ 2 ∷ 3 ∷ 17 ∷ 4 ∷ 5 ∷ 6 ∷ 7 ∷ []
unfolding model_rules_with
checking-order m arguments = refl

-- ---- what 17 tries of a joint: its limit mask, its motor mask and its coupled one, in this order

module _ (words : List ℕ) (j : ℕ) where
  abbrev mask : ℕ → ℕ
  mask c = word words_width words j (masks_place + c)

  pub limit-past : linear_axes < mask 1 → false ≡ linear_alone words j
  unfolding linear_alone
  limit-past h = rw (lt-ltb linear_axes (mask 1) h)

  pub motor-past : mask 1 ≤ linear_axes → linear_axes < mask 2 → false ≡ linear_alone words j
  unfolding linear_alone
  motor-past g h = rw (le-ltb linear_axes (mask 1) g, lt-ltb linear_axes (mask 2) h)

  pub none-coupled : mask 1 ≤ linear_axes → mask 2 ≤ linear_axes → eqb (mask 3) 0 ≡ linear_alone words j
  unfolding linear_alone
  none-coupled g h = rw (le-ltb linear_axes (mask 1) g, le-ltb linear_axes (mask 2) h)

-- ---- cases

abbrev o : Float
o = fin false 0 (pos 0)

-- one joint between the world and body b2 of one body, with these masks and this kind of `JointEnabled`
abbrev masked : ℕ → ℕ → ℕ → ℕ → ℕ → ℕ → Model
masked locked limit motor coupled enabled b2 =
    model (record { dt = o; length_unit = o; normalized_max_corrective_velocity = o }) false (replicate 22 o) (world ∷ b2 ∷ locked ∷ limit ∷ motor ∷ coupled ∷ 0 ∷ 0 ∷ 0 ∷ enabled ∷ []) (replicate 49 o)

-- the number with which a load with room for nine rows is refused
abbrev told : Model → ℕ
told m = refusal (rules_of spatial load m (replicate 261 o))

mask-cases : map told (
    masked 63 0 0 0 0 0
    ∷ masked 56 7 7 0 0 0
    ∷ masked 0 8 0 0 0 0
    ∷ masked 63 8 0 0 0 0
    ∷ masked 0 0 32 0 0 0
    ∷ masked 0 0 0 1 0 0
    ∷ masked 0 8 0 0 2 0
    ∷ masked 0 8 0 0 0 1
    ∷ masked 63 0 0 0 0 1
    ∷ masked 64 0 0 0 0 0
    ∷ masked 0 0 0 64 0 0
    ∷ masked 0 64 8 1 0 0
    ∷ []
    ) ≡ 0 ∷ 0 ∷ 17 ∷ 17 ∷ 17 ∷ 17 ∷ 17 ∷ 17 ∷ 4 ∷ 3 ∷ 3 ∷ 3 ∷ []
unfolding rules_of refusal all model_rules_with storage_rule masks_fit linear_alone present_or_world bodies_present bodies_apart passes passes_from finite_params finite_body finite_joint abs_of is_finite is_nan lt of_bits body_count joint_count row_capacity rows_before row_count joint_ids row_masks_at enabled_at masks_at body1_at body2_at has_axis row_ids
mask-cases = refl
