-- Two studies that differ and move, and meet every premise of demand 3 (`compared`): body 0 is the set, and moves; body 1 stands elsewhere in each. The list is a frame of two substeps, granted in both (`granted`), in which body 0 moves by its velocity times dt (`moves`). All of it is
-- computed.
use Rattle.std.proofs.Common.{◌≡◌, ℕ, zero, suc, ◌<◌, Bool, true, false, ltb, List, [], ◌∷◌, ◌++◌, pos, sym, refl, ◌∙◌, arith, lit≤, ltb-true, None}
use lib.Ieee.{Float, fin, lt, eq, is_nan, of_bits, of_int, add, sub, mul, div, round}
use Rattle.floats.specs.Scalar.{is_finite}
use Rattle.floats.specs.Vector.{add_of, mul_of, gdot_of, length_of}
use Rattle.floats.specs.Sqrt.{sqrt_of}
use Rattle.floats.specs.Bits.{units_of}
use Rattle.rows.specs.declared.integration_parameters.IntegrationParameters.{IntegrationParameters}
use Rattle.multibody.specs.Rules.{refusal, all}
use Rattle.multibody.specs.Model.{Model, model}
use Rattle.multibody.specs.Counts.{body_count, joint_count, row_capacity, rows_before, store_firsts}
use Rattle.multibody.specs.Finite.{passes, passes_from}
use Rattle.multibody.specs.Refusals.{present_or_world, bodies_present, bodies_apart, finite_params, finite_warm, finite_body, model_rules_with, storage_rule, sweep_rule, built_rule, seeds_rule, reads_rows}
use Rattle.multibody.specs.Calls.{rules_of, granted_of, run, each_joint, rounds, sweep_round}
use Rattle.multibody.specs.Calls.Call.{load}
use Rattle.multibody.specs.Traces.{Study, AtEach}
use Rattle.multibody.specs.Studies.{machine, Loaded, Enough, GrantedAlike, Agree, Names, Compared, SameNumbers, Noninterference}
use Rattle.multibody.proofs.CallLaws.{run-granted}
use Rattle.multibody.proofs.Premises.{Turn, recorded, recorded-returns}
use Rattle.model.specs.Store.{solver_pose_at, vel_at, put_pose}
use Rattle.model.specs.Refusals.{masks_fit, finite_pose}
use Rattle.model.specs.Planar.{plane, planar}
use Rattle.frames.specs.Moving.{moved_rotation, moved_pose, new_pose, move_from}
use Rattle.frames.specs.Frames.{is_step, substeps_rule, before_move, move_of, after_move, substep, substeps, steps_of, all_substeps, frame_rules, granted_frame, run_frame}
use Rattle.frames.specs.Studies.{moving_calls}
use Rattle.frames.specs.Studies.MovingCall.{frame}
use Rattle.frames.proofs.FrameRefused.{frame-told}
use Rattle.frames.proofs.MovingStudies.{moving-two-studies}

abbrev o : Float
o = fin false 0 (pos 0)

abbrev one : Float
one = fin false 1 (pos 0)

abbrev two : Float
two = fin false 1 (pos 1)

abbrev params : IntegrationParameters
params = record { dt = one; length_unit = one; normalized_max_corrective_velocity = one }

-- a body at x, with a velocity along x
abbrev body_at : Float → Float → List Float
body_at x v = one ∷ o ∷ x ∷ o ∷ one ∷ one ∷ one ∷ v ∷ o ∷ o ∷ []

-- body 0 moves; where body 1 stands
abbrev example : Float → Model
example x = model params false (body_at o two ++ body_at x o) [] []

abbrev pub s : Study (machine moving_calls)
s = record { model = example one; rows = [] }

abbrev pub s' : Study (machine moving_calls)
s' = record { model = example two; rows = [] }

abbrev pub ts : List (Turn moving_calls)
ts = record { call = frame None 1 2; lent = []; lent' = [] } ∷ []

abbrev pub set : ℕ → Bool
set i = ltb i 1

-- where body 0 stands
abbrev pose_x : List Float → Float
pose_x bodies = (solver_pose_at bodies 0).pose.translation.x

-- every rule of a load, and of the frame, holds
abbrev Granted : Model → Type 0
Granted m = (refusal (rules_of planar load m []) ≡ 0) × (refusal (frame_rules None 1 2 m []) ≡ 0)

pub granted : Granted (example one) × Granted (example two)
unfolding frame_rules rules_of refusal all model_rules_with storage_rule sweep_rule built_rule seeds_rule reads_rows substeps_rule masks_fit present_or_world bodies_present bodies_apart passes passes_from finite_params finite_warm finite_body finite_pose is_finite is_nan is_step lt eq of_bits of_int add sub mul div round body_count joint_count row_capacity rows_before all_substeps steps_of substeps substep before_move after_move move_of move_from new_pose moved_pose moved_rotation add_of mul_of gdot_of length_of sqrt_of units_of solver_pose_at vel_at put_pose run granted_of each_joint rounds sweep_round
granted = ((refl, refl), (refl, refl))

loaded-as : (x : Float) → refusal (rules_of planar load (example x) []) ≡ 0 → Loaded moving_calls (record { model = example x; rows = [] })
unfolding granted_of store_firsts joint_count
loaded-as x e = record { handed_over = example x; by_load = sym (run-granted load (example x) [] e) }

enough : AtEach (Enough moving_calls) (recorded moving_calls ts s s') s s'
unfolding AtEach recorded joint_count row_capacity rows_before
enough = (λ e. (lit≤ tt, lit≤ tt), tt)

-- the frame is granted in both
alike : AtEach (GrantedAlike moving_calls) (recorded moving_calls ts s s') s s'
unfolding AtEach recorded
alike =
    let t = frame-told None 1 2 (example one) [] ∙ granted.0.1 in
    let t' = frame-told None 1 2 (example two) [] ∙ granted.1.1 in
    ((λ e. t', λ e. t), tt)

no-joints : (x : Float) (j : ℕ) → j < joint_count plane (example x).words (example x).numbers → ⊥
unfolding joint_count
no-joints x j h = omega (arith, h)

two-bodies : (x : Float) → body_count plane (example x).bodies ≡ 2
unfolding body_count
two-bodies x = refl

-- the set's body is body 0
body-cases : (P : ℕ → Type 0) → P 0 → (i : ℕ) → set i ≡ true → P i
body-cases P a zero e = a
body-cases P a (suc i) e = absurd (omega (arith, ltb-true (suc i) 1 e))

agree : Agree plane set (Names moving_calls (recorded moving_calls ts s s') s s') (example one) (example two)
unfolding solver_pose_at vel_at
agree = record {
  params = refl;
  closed = λ j t. absurd (no-joints one j t.there);
  closed' = λ j t. absurd (no-joints two j t.there);
  present = λ i e. (omega (arith, ltb-true i 1 e, two-bodies one), omega (arith, ltb-true i 1 e, two-bodies two));
  poses = body-cases (λ i. solver_pose_at (example one).bodies i ≡ solver_pose_at (example two).bodies i) refl;
  velocities = body-cases (λ i. vel_at (example one).bodies i ≡ vel_at (example two).bodies i) refl;
  joints = λ j t. absurd (no-joints one j t.there);
  joints' = λ j t. absurd (no-joints two j t.there);
  bodies1 = λ j t. absurd (no-joints one j t.there);
  bodies2 = λ j t. absurd (no-joints one j t.there);
  contents = λ j t. absurd (no-joints one j t.there);
}

pub compared : Compared moving_calls set (recorded moving_calls ts s s') s s'
compared = record { loaded = loaded-as one granted.0.0; loaded' = loaded-as two granted.1.0; agree = agree; storage = enough; alike = alike; traces = recorded-returns moving_calls ts s s' }

pub same_numbers : SameNumbers plane (example one) (example two)
unfolding joint_count
same_numbers = record { bodies = two-bodies one ∙ sym (two-bodies two); joints = refl }

-- so they share what body 0 does
pub shared : Noninterference moving_calls set (recorded moving_calls ts s s') s s'
shared = moving-two-studies set (recorded moving_calls ts s s') s s' same_numbers compared

-- it moves: in each of the two substeps by one, half its velocity
pub moves : pose_x (run_frame None 1 2 (example one) []).after.bodies ≡ two
unfolding run_frame granted_frame frame_rules rules_of refusal all model_rules_with storage_rule sweep_rule built_rule seeds_rule reads_rows substeps_rule masks_fit present_or_world bodies_present bodies_apart passes passes_from finite_params finite_warm finite_body finite_pose is_finite is_nan is_step lt eq of_bits of_int add sub mul div round body_count joint_count row_capacity rows_before all_substeps steps_of substeps substep before_move after_move move_of move_from new_pose moved_pose moved_rotation add_of mul_of gdot_of length_of sqrt_of units_of solver_pose_at vel_at put_pose run granted_of each_joint rounds sweep_round
moves = refl
