-- A study that meets all that R-13 asks of a sweep (`meets`): two bodies of inverse mass 1, of which one moves, a joint between them without masks, a mask change that has it lock an axis, a build, and then
-- a granted sweep of two rounds. All of it is computed.
use Rattle.std.specs.Prelude.{None}
use Prim.Native.Nat.{ℕ}
use mathlib.Core.Path.{◌≡◌, refl, sym, subst}
use mathlib.Core.Logic.{inl, inr}
use mathlib.Core.Bool.{true, false, false≢true}
use mathlib.Core.List.{List, [], ◌∷◌, ◌++◌}
use borrow.Author.Tests.{eqb-true}
use lib.Dec.{eqb, lit≤}
use lib.IntN.{pos}
use lib.ListN.{replicate}
use lib.Ieee.{Float, fin, fits, add, sub, mul, div, neg, lt, le, eq, ne, is_nan, of_bits}
use Rattle.floats.specs.Bits.{units_of}
use Rattle.floats.specs.Scalar.{is_finite, clamp_of}
use Rattle.floats.specs.Value.{magnitude_of}
use Rattle.floats.specs.Vector.{Axis, X, Y, add_of, sub_of, mul_of, gdot_of, gcross_matrix_of, component_mul_of, transform_vector_of}
use Rattle.floats.specs.Rotation.{column_of, inverse_of, product_of, rotate_of, to_mat_of}
use Rattle.floats.specs.Pose.{pose_product_of}
use Rattle.floats.specs.Utils.{simd_inv_of}
use Rattle.rows.specs.IntegrationParameters.{angular_frequency_of, erp_inv_dt_of, erp_of, cfm_coeff_of}
use Rattle.rows.specs.RowIds.{has_axis, row_ids}
use Rattle.rows.specs.Helper.{angular_limit_params_of, coord_of, snapped_of, new_of, linear_axis_of}
use Rattle.rows.specs.Makers.{assemble_of, lock_bounds, lock_linear_of}
use Rattle.rows.specs.Groups.{orthogonalise_n, finalize_of}
use Rattle.rows.specs.Finalize.{im_sum_of, row_dot_of, head_of, is_lock}
use Rattle.rows.specs.Update.{context_of, row_of, update_of}
use Rattle.rows.specs.Warmed.{warmed_of, warmed_all}
use Rattle.rows.specs.Builder.{solver_body_of, joint_context_of, seed_of, builder_update_of}
use Rattle.rows.specs.Row.{with_impulse}
use Rattle.rows.specs.Step.{wanted_impulse_of, applied_of, step_of}
use Rattle.rows.specs.declared.generic_joint.Masks.{Masks}
use Rattle.rows.specs.declared.integration_parameters.IntegrationParameters.{IntegrationParameters}
use Rattle.multibody.specs.Rules.{refusal, all}
use Rattle.multibody.specs.Model.{Model, model}
use Rattle.multibody.specs.JointRows.{state, row_masks_at, joint_ids, row_count, put_rows, impulses_at, built_rows, build_joint, sweep_row}
use Rattle.multibody.specs.Counts.{body_count, joint_count, row_capacity, rows_before, store_firsts}
use Rattle.multibody.specs.Finite.{passes, passes_from}
use Rattle.multibody.specs.Refusals.{present_or_world, bodies_present, bodies_apart, finite_params, finite_warm, finite_body, finite_joint, model_rules_with, storage_rule, sweep_rule, built_rule, seeds_rule, reads_rows, joint_rule}
use Rattle.multibody.specs.Calls.{rules_of, granted_of, run, refusal_of, each_joint, build_one}
use Rattle.multibody.specs.Calls.Call.{load, build, sweep, set_masks}
use Rattle.multibody.specs.Traces.{Study, Given, after_calls}
use Rattle.multibody.specs.Studies.{machine, Loaded}
use Rattle.multibody.specs.SweepSteps.{joint_steps, joints_steps, round_steps, repeated, sweep_steps, among, with_body, named_bodies, EachStep}
use Rattle.model.specs.Store.{row_at, put_row, put_first, put_masks, solver_pose_at, vel_at, put_vel, joint_at, center_at, masks_at, enabled_at, body1_at, body2_at}
use Rattle.model.specs.Refusals.{masks_fit, new_masks_fit, angle_fits, center_fits}
use Rattle.model.specs.Planar.{plane, planar}
use Rattle.model.specs.Studies.{planar_calls}
use Rattle.model.specs.SweepMomentum.{StepInRange, Binary32Bodies, SweepBound, PowerOfTwo}
use Rattle.multibody.proofs.Tests.{by_cases}
use Rattle.multibody.proofs.CallLaws.{run-granted}
use Rattle.model.proofs.SweepDrift.{study-drift}

abbrev o : Float
o = fin false 0 (pos 0)

abbrev one : Float
one = fin false 1 (pos 0)

-- a body of inverse mass 1, with a velocity along x
abbrev body_with : Float → List Float
body_with v = one ∷ o ∷ o ∷ o ∷ one ∷ one ∷ one ∷ v ∷ o ∷ o ∷ []

-- the timestep is 0
abbrev params : IntegrationParameters
params = record { dt = o; length_unit = one; normalized_max_corrective_velocity = one }

-- a joint between bodies 0 and 1, without masks, with identity frames and a softness
abbrev m : Model
m =
    model params false (body_with one ++ body_with o)
    (0 ∷ 1 ∷ replicate 10 0)
    (one ∷ o ∷ o ∷ o ∷ one ∷ o ∷ o ∷ o ∷ (replicate 27 o ++ (one ∷ one ∷ o ∷ o ∷ o ∷ one ∷ o ∷ [])))

-- row storage of one row
abbrev storage : List Float
storage = replicate 18 o

abbrev s : Study (machine planar_calls)
s = record { model = m; rows = storage }

-- the joint locks axis 0
abbrev locks : Masks
locks = record { locked_axes = 1; limit_axes = 0; motor_axes = 0; coupled_axes = 0 }

abbrev calls : List (Given (machine planar_calls))
calls = record { call = set_masks 0 locks; lent = storage } ∷ record { call = build None 0; lent = storage } ∷ []

abbrev t : Study (machine planar_calls)
t = after_calls calls s

load-holds : refusal (rules_of planar load m storage) ≡ 0
unfolding rules_of refusal all model_rules_with storage_rule masks_fit present_or_world bodies_present bodies_apart passes passes_from finite_params finite_body finite_joint angle_fits center_fits center_at is_finite is_nan lt of_bits body_count joint_count row_capacity rows_before row_count joint_ids row_masks_at enabled_at masks_at body1_at body2_at has_axis row_ids
load-holds = refl

loaded : Loaded planar_calls s
unfolding granted_of store_firsts put_first body_count joint_count rows_before row_count joint_ids row_masks_at enabled_at masks_at has_axis row_ids
loaded = record { handed_over = m; by_load = sym (run-granted load m storage load-holds) }

-- what holds along both axes
along-both : (P : Axis → Type 0) → P X → P Y → (i : Axis) → P i
along-both P x y X = x
along-both P x y Y = y

-- the bodies that the rows name are 0 and 1
two-bodies : (P : ℕ → Type 0) → P 0 → P 1 → (b : ℕ) → among b (0 ∷ 1 ∷ []) ≡ true → P b
unfolding among
two-bodies P p q b e =
    by_cases (eqb b 0) (λ t. subst P (sym (eqb-true b 0 t)) p)
    (λ t. by_cases (eqb b 1) (λ u. subst P (sym (eqb-true b 1 u)) q) (λ u. absurd (false≢true (rw (t, u) at e))))

-- granted, with powers of two for the inverse masses, velocities of binary32, and two steps in range
meets : (refusal_of (run planar (sweep 2) t.model t.rows).answer ≡ 0)
    × (((b : ℕ) → among b (named_bodies (round_steps plane t.model)) ≡ true → PowerOfTwo 20 t.model.bodies b)
    × (Binary32Bodies t.model × EachStep plane StepInRange (sweep_steps plane t.model 2) (state t.rows t.model.bodies)))
unfolding after_calls run rules_of granted_of refusal all model_rules_with new_masks_fit joint_rule store_firsts put_first put_masks storage_rule sweep_rule built_rule seeds_rule reads_rows masks_fit present_or_world bodies_present bodies_apart passes passes_from finite_params finite_warm finite_body finite_joint angle_fits center_fits center_at is_finite is_nan lt le eq ne of_bits fits add sub mul div neg body_count joint_count row_capacity rows_before row_count joint_ids row_masks_at enabled_at masks_at body1_at body2_at has_axis row_ids each_joint build_one build_joint put_rows put_row impulses_at built_rows builder_update_of joint_context_of context_of solver_body_of solver_pose_at joint_at warmed_all warmed_of seed_of update_of row_of lock_linear_of lock_bounds assemble_of linear_axis_of new_of snapped_of coord_of angular_limit_params_of finalize_of orthogonalise_n head_of is_lock row_dot_of im_sum_of row_at angular_frequency_of erp_inv_dt_of erp_of cfm_coeff_of simd_inv_of pose_product_of column_of inverse_of product_of rotate_of to_mat_of add_of sub_of mul_of gdot_of gcross_matrix_of component_mul_of transform_vector_of clamp_of wanted_impulse_of applied_of step_of with_impulse sweep_row vel_at put_vel magnitude_of units_of joint_steps joints_steps repeated with_body named_bodies EachStep among
meets = (
  refl,
  (
    two-bodies _ (record { range = lit≤ tt; mass = along-both _ refl refl }) (record { range = lit≤ tt; mass = along-both _ refl refl }),
    (
      two-bodies _ (along-both _ refl refl) (along-both _ refl refl),
      (
        record {
          finite1 = along-both _ refl refl;
          finite2 = along-both _ refl refl;
          normal1 = along-both _ (inr (lit≤ tt)) (inl refl);
          normal2 = along-both _ (inr (lit≤ tt)) (inl refl);
        },
        (
          record {
            finite1 = along-both _ refl refl;
            finite2 = along-both _ refl refl;
            normal1 = along-both _ (inl refl) (inl refl);
            normal2 = along-both _ (inl refl) (inl refl);
          },
          tt,
        ),
      ),
    ),
  ),
)

drift : SweepBound (λ b. 20) t.model t.rows 2 (run planar (sweep 2) t.model t.rows).after.bodies
drift = study-drift calls s loaded (λ b. 20) 2 meets.0 meets.1.0 meets.1.1.0 meets.1.1.1
