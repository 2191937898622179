-- Every line of the catalogue is some joint's: between a body and the world a joint with the line's masks is built (`every-line`), so that `catalogued` says something
-- of each line.
use Rattle.std.specs.Prelude.{None}
use Prim.Native.Nat.{ℕ, ◌<◌}
use mathlib.Core.Path.{◌≡◌, refl, ap, ◌∙◌}
use mathlib.Core.Bool.{false, not}
use mathlib.Core.List.{List, [], ◌∷◌}
use native.Mathlib.Omega.{arith}
use borrow.Author.Tests.{le-ltb}
use lib.IntN.{pos}
use lib.ListN.{length, replicate}
use lib.Ieee.{Float, fin, lt, is_nan, of_bits}
use Rattle.floats.specs.Scalar.{is_finite}
use Rattle.floats.specs.Sign.{abs_of}
use Rattle.rows.specs.declared.generic_joint.Masks.{Masks}
use Rattle.rows.specs.declared.integration_parameters.IntegrationParameters.{IntegrationParameters}
use Rattle.model.specs.Store.{world, masks_at, enabled_at, body1_at, body2_at, center_at}
use Rattle.multibody.specs.Model.{Model, model}
use Rattle.multibody.specs.Counts.{body_count, joint_count, row_capacity, rows_before, Room}
use Rattle.multibody.specs.Rules.{all}
use Rattle.multibody.specs.Finite.{passes, passes_from}
use Rattle.multibody.specs.Refusals.{present_or_world, bodies_present, bodies_apart, finite_params, finite_warm, finite_body, finite_joint, model_rules, storage_rule, seeds_rule, reads_rows}
use Rattle.multibody.specs.Calls.{refusal_of, first_rules, own_rules, rules_of, run}
use Rattle.multibody.specs.Calls.Call.{build}
use Rattle.model.specs.Planar.{plane, planar}
use Rattle.model.proofs.PlanarLaws.{planar-laws}
use Rattle.model.specs.Refusals.{masks_fit, angle_fits, center_fits}
use Rattle.multibody.proofs.JointRowsLaws.{few-rows}
use Rattle.multibody.proofs.RuleLaws.{Hold, all_hold, hold-granted}
use Rattle.multibody.proofs.RefusalLaws.{model-numbered, RulesHold, rules-granted}
use Rattle.multibody.proofs.RefusedExactly.{told}
use Rattle.catalogue.specs.Choices.{choices, entry, Legal}
use Rattle.catalogue.specs.Built.{OnLine}
use Rattle.catalogue.proofs.ChoicesLaws.{legal}
use Rattle.catalogue.proofs.Built.{hold-both}

abbrev o : Float
o = fin false 0 (pos 0)

abbrev one : Float
one = fin false 1 (pos 0)

abbrev params : IntegrationParameters
params = record { dt = one; length_unit = one; normalized_max_corrective_velocity = one }

-- a body at the origin, and an enabled joint with these masks between it and the world
abbrev pub sample : Masks → Model
sample k =
    model params false (one ∷ o ∷ o ∷ o ∷ one ∷ one ∷ one ∷ o ∷ o ∷ o ∷ [])
    (0 ∷ world ∷ k.locked_axes ∷ k.limit_axes ∷ k.motor_axes ∷ k.coupled_axes ∷ 0 ∷ 0 ∷ 0 ∷ 0 ∷ 0 ∷ 0 ∷ [])
    (one ∷ o ∷ o ∷ o ∷ one ∷ o ∷ o ∷ o ∷ replicate 34 o)

-- row storage of six rows
abbrev pub storage : List Float
storage = replicate 108 o

module _ (k : Masks) (h : Legal k) where
  rules : RulesHold planar-laws (sample k)
  unfolding all masks_fit present_or_world bodies_present bodies_apart passes passes_from finite_params finite_body finite_joint angle_fits center_fits center_at abs_of is_finite is_nan lt of_bits body_count joint_count body1_at body2_at
  rules = record {
    bodies = refl;
    joints = refl;
    masks = (rw (le-ltb 7 _ h.locked, le-ltb 7 _ h.limit, le-ltb 7 _ h.motor, le-ltb 7 _ h.coupled), tt);
    present = refl;
    apart = refl;
    finite-params = refl;
    finite-bodies = refl;
    finite-joints = refl;
    contents = (refl, tt);
    dt = refl;
  }

  room : Room plane (sample k) storage
  unfolding joint_count row_capacity rows_before
  room = omega (arith, few-rows planar-laws (sample k).words 0 refl)

  granted : Hold (rules_of planar (build None 0) (sample k) storage)
  unfolding rules_of storage_rule seeds_rule reads_rows finite_warm
  granted =
      hold-both (first_rules planar (build None 0) (sample k) storage) (own_rules planar (build None 0) (sample k))
      (hold-both (model_rules planar (sample k) _) (storage_rule plane (sample k) storage ∷ [])
      (all_hold (model_rules planar (sample k) _) (model-numbered planar-laws (sample k) _ _) (rules-granted planar-laws (sample k) _ rules refl)) (ap not (le-ltb _ _ room), tt))
      (refl, tt)

pub every-line : (n : ℕ) → n < length choices → (refusal_of (run planar (build None 0) (sample (entry n)) storage).answer ≡ 0) × OnLine (sample (entry n)) 0 n
unfolding joint_count enabled_at masks_at
every-line n h = (
  told planar-laws (build None 0) (sample (entry n)) storage ∙ hold-granted (rules_of planar (build None 0) (sample (entry n)) storage) (granted (entry n) (legal n h)),
  record { there = omega arith; enabled = refl; masks = refl },
)
