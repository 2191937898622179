-- Document 02, R-12: a frame, as a list of the model's calls with a move in each substep.
use Rattle.std.specs.Prelude.{◌≡◌, ℕ, zero, suc, ◌+◌, ◌-◌, Bool, true, false, cond, not, ◌&&◌, List, [], ◌∷◌, ◌++◌, pos, ◌==◌, Float, Option, Some, None, Result, Ok, Err}
use Rattle.std.specs.Float.{binary32}
use Rattle.std.specs.Float.Ieee.{of_int, lt}
use Rattle.floats.specs.Operators.{◌⊘◌, bits}
use Rattle.floats.specs.Scalar.{is_finite}
use Rattle.multibody.specs.Rules.{Rule, rule, refusal, at_most}
use Rattle.multibody.specs.Model.{Model, model, with_bodies}
use Rattle.multibody.specs.Counts.{body_count}
use Rattle.multibody.specs.Refusals.{finite_warm, sweep_rule}
use Rattle.multibody.specs.Calls.{Call, Answer, Outcome, outcome, run, handed_rules}
use Rattle.multibody.specs.Calls.Call.{build, warm_start, sweep, remove_bias, write_back}
use Rattle.multibody.specs.Calls.Change.{none}
use Rattle.multibody.specs.Calls.Answer.{refused}
use Rattle.model.specs.Planar.{plane, planar}
use Rattle.model.specs.Model.{model_of}
use Rattle.multibody.specs.Answers.{sweep_answer, Filled}
use Rattle.multibody.specs.declared.header.Header.{Header}
use Rattle.multibody.specs.declared.refusal.Refusal.{Refusal}
use Rattle.frames.specs.Moving.{Moved, move_from}
use Rattle.frames.specs.declared.frame.Reached.{Reached}

-- at most so many substeps
abbrev pub most_substeps : ℕ
most_substeps = 16

-- the model with another timestep
abbrev pub with_dt : Model → Float → Model
with_dt m h =
    model (record { dt = h; length_unit = m.params.length_unit; normalized_max_corrective_velocity = m.params.normalized_max_corrective_velocity })
    m.built m.bodies m.words m.numbers

-- the substep: dt/n, one division
abbrev pub substep_of : Float → ℕ → Float
substep_of dt n = dt ⊘ of_int binary32 (pos n)

-- a moment in a frame: the model, and its row storage
pub record Moment : Type 0 where
  pub model : Model
  pub rows : List Float

abbrev pub moment : Model → List Float → Moment
moment m rows = record { model = m; rows = rows }

-- what one of the model's calls leaves
abbrev pub leaves : Call planar → Moment → Moment
leaves c s = let o = run planar c s.model s.rows in moment o.after o.rows

-- a frame so far: whether its new poses were finite, what is left, and what the last sweep answered
pub record Progress : Type 0 where
  pub finite : Bool
  pub left : Moment
  pub answer : Answer plane

abbrev pub progress : Bool → Moment → Answer plane → Progress
progress f s a = record { finite = f; left = s; answer = a }

-- "build with the substep's number from 0, warm start, sweep,
unfoldable pub before_move : Option Float → ℕ → ℕ → Moment → Moment
before_move warm sweeps i s = leaves (sweep sweeps) (leaves warm_start (leaves (build warm i) s))

-- move,
unfoldable pub move_of : Moment → Moved
move_of s = move_from s.model.params.dt 0 (body_count plane s.model.bodies) s.model.bodies

abbrev pub moved_moment : Moment → Moment
moved_moment s = moment (with_bodies s.model (move_of s).bodies) s.rows

-- remove bias, sweep"
unfoldable pub after_move : ℕ → Moment → Progress
after_move sweeps s =
    let t = leaves remove_bias s in
    let o = run planar (sweep sweeps) t.model t.rows in
    progress true (moment o.after o.rows) o.answer

unfoldable pub substep : Option Float → ℕ → ℕ → Moment → Progress
substep warm sweeps i s =
    let t = before_move warm sweeps i s in
    cond (move_of t).finite (after_move sweeps (moved_moment t)) (progress false (moved_moment t) (refused 6))

-- n substeps from number i on, up to the first that meets a new pose which is not finite
unfoldable pub substeps : Option Float → ℕ → ℕ → ℕ → Progress → Progress
substeps warm sweeps i zero p = p
substeps warm sweeps i (suc n) p = cond p.finite (substeps warm sweeps (i + 1) n (substep warm sweeps i p.left)) p

-- all n, of which there is one
unfoldable pub steps_of : Option Float → ℕ → ℕ → Moment → Progress
steps_of warm sweeps n s = substeps warm sweeps 1 (n - 1) (substep warm sweeps 0 s)

-- "n substeps of dt/n, the dt of their builds"
unfoldable pub all_substeps : Option Float → ℕ → ℕ → Model → List Float → Progress
all_substeps warm sweeps n m rows = steps_of warm sweeps n (moment (with_dt m (substep_of m.params.dt n)) rows)

-- The builds have a timestep as rules 6 and 7 ask. Of a binary32 timestep that is finite and not below zero dt/n is always so (`step_of_lem` in proofs/StepLaws).
unfoldable pub is_step : Float → Bool
is_step h = is_finite h && not (lt h (bits 0))

-- "16 when n is 0 or above 16"
unfoldable pub substeps_rule : ℕ → Rule
substeps_rule n = rule 16 (not (n == 0) && at_most most_substeps n)

-- The rules of a frame: 1 to 8 and 12 over what it is handed; 9; 16, "tried after 9"; and "the first new pose that is not finite refuses the frame as 6 does". Rule 10
-- cannot fail: the first build has substep 0.
abbrev pub own_rules : ℕ → ℕ → Bool → List Rule
own_rules sweeps n finite = sweep_rule sweeps ∷ substeps_rule n ∷ rule 6 finite ∷ []

abbrev pub finite_frame : Option Float → ℕ → ℕ → Model → List Float → Bool
finite_frame warm sweeps n m rows = is_step (substep_of m.params.dt n) && (all_substeps warm sweeps n m rows).finite

unfoldable pub frame_rules : Option Float → ℕ → ℕ → Model → List Float → List Rule
frame_rules warm sweeps n m rows = handed_rules planar true m none (finite_warm warm) rows ++ own_rules sweeps n (finite_frame warm sweeps n m rows)

-- "write back after the last"; "a granted frame returns its last sweep's counts, and the model keeps its dt"
unfoldable pub granted_frame : Option Float → ℕ → ℕ → Model → List Float → Outcome plane
granted_frame warm sweeps n m rows =
    let p = all_substeps warm sweeps n m rows in
    let t = leaves write_back p.left in
    outcome p.answer (with_dt t.model m.params.dt) t.rows

-- a frame: refused with the number of the first rule that fails, and then "everything reverts to the frame's start, row storage too"
unfoldable pub run_frame : Option Float → ℕ → ℕ → Model → List Float → Outcome plane
run_frame warm sweeps n m rows =
    let k = refusal (frame_rules warm sweeps n m rows) in
    cond (k == 0) (granted_frame warm sweeps n m rows) (outcome (refused k) m rows)

-- ---- the program's answers

-- the program has come so far; where a new pose is not finite, no further, and of that substep's row storage alone there is more to say
abbrev pub Reaches : ℕ → Option Reached → List Float → List ℕ → List Float → List Float → Progress → Type 0
Reaches joints (Some r) bodies words numbers rows p = (progress true (moment (model_of r.header bodies words numbers) rows) (sweep_answer joints r.last) ≡ p) × Filled joints r.last
Reaches joints None bodies words numbers rows p = (p.finite ≡ false) × (p.left.rows ≡ rows)

-- what is left of substeps: all of them, or bodies and rows as they were
abbrev pub OrBack : ℕ → Option Reached → List Float → List ℕ → List Float → List Float → Progress → List Float → List Float → Type 0
OrBack joints (Some r) bodies words numbers rows all bodies₀ rows₀ = Reaches joints (Some r) bodies words numbers rows all
OrBack joints None bodies words numbers rows all bodies₀ rows₀ = (all.finite ≡ false) × (bodies ≡ bodies₀) × (rows ≡ rows₀)

-- a header with another timestep
abbrev pub header_with_dt : Header → Float → Header
header_with_dt header h = record {
  params = record { dt = h; length_unit = header.params.length_unit; normalized_max_corrective_velocity = header.params.normalized_max_corrective_velocity };
  built = header.built;
}

-- a frame's array of counts, which is filled up as a sweep's is, and its answer
abbrev pub frame_counts : Result (Header × List ℕ) Refusal → Result (List ℕ) Refusal
frame_counts (Ok r) = Ok r.1
frame_counts (Err e) = Err e

abbrev pub frame_answer : ℕ → Result (Header × List ℕ) Refusal → Answer plane
frame_answer joints r = sweep_answer joints (frame_counts r)
