-- Document 02, R-13, over a sweep: how far the momentum sum of the bodies that its rows name may drift. Momenta count units of 2^-169, and a body's inverse mass is 2^(20 - w), as in rows'
-- specs/Momentum.antt. A sweep's steps and the sums over bodies and steps are multibody's (specs/SweepSteps.antt).
use Rattle.std.specs.Prelude.{ℕ, ◌+◌, ◌*◌, ◌≤◌, ◌<◌, ◌≡◌, ◌≢◌, true, List, Float, ℤ, nat_abs, ◌-ℤ◌}
use Rattle.floats.specs.Vector.{Axis, component}
use Rattle.rows.specs.Step.{step_of}
use Rattle.rows.specs.Momentum.{inverse_mass, momentum_of, momentum_spacing, PowersOfTwo, Binary32, InRange, impulse_change_of, HasInverseMasses}
use Rattle.rows.specs.declared.joint_velocity_constraint.SolverVels.{SolverVels}
use Rattle.multibody.specs.Model.{Model}
use Rattle.multibody.specs.JointRows.{State, state, row_count}
use Rattle.multibody.specs.Counts.{joint_count, rows_before}
use Rattle.multibody.specs.Calls.{run, refusal_of}
use Rattle.multibody.specs.Calls.Call.{sweep}
use Rattle.multibody.specs.Traces.{Study, Given, after_calls}
use Rattle.multibody.specs.Studies.{Calls, machine, Loaded}
use Rattle.multibody.specs.SweepSteps.{RowStep, round_steps, sweep_steps, EachStep, bounds_over, among, named_bodies, sum_over}
use Rattle.model.specs.Store.{world, row_at, vel_at, solver_pose_at, body1_at, body2_at}
use Rattle.model.specs.Planar.{plane, planar}

-- ---- what R-13 asks of every step

-- the velocities that a step leaves
abbrev pub vels_after : RowStep → State → SolverVels
vels_after t st = (step_of (row_at st.rows t.row) (vel_at st.bodies t.body1) (vel_at st.bodies t.body2)).vels

-- The step of a row, at the row and the velocities that it finds: no overflow and no underflow.
abbrev pub StepInRange : RowStep → State → Type 0
StepInRange t st =
    let c = row_at st.rows t.row in
    let v1 = vel_at st.bodies t.body1 in
    let v2 = vel_at st.bodies t.body2 in
    InRange c v1 v2 (impulse_change_of c v1 v2)

-- And both bodies move, which the world does not, and have powers of two for inverse masses: w b is body b's w.
pub record StepMeets (w : ℕ → ℕ) (t : RowStep) (st : State) : Type 0 where
  pub moves1 : t.body1 ≢ world
  pub moves2 : t.body2 ≢ world
  pub masses : PowersOfTwo (row_at st.rows t.row) (w t.body1) (w t.body2)
  pub values : StepInRange t st

-- the velocities of the bodies that a model's rows name are binary32 numbers
abbrev pub Binary32Bodies : Model → Type 0
Binary32Bodies m = (b : ℕ) → among b (named_bodies (round_steps plane m)) ≡ true → Binary32 (vel_at m.bodies b)

-- ---- what it claims

-- the exact momentum sum along an axis of the bodies that a model's rows name, with their velocities in a storage
abbrev pub momentum_over : (ℕ → ℕ) → Axis → Model → List Float → ℤ
momentum_over w i m bodies = sum_over (named_bodies (round_steps plane m)) (λ b. momentum_of (w b) (component i (vel_at bodies b).linear))

-- twice the bound of a step, at the velocities that it leaves
abbrev pub step_spacing : (ℕ → ℕ) → Axis → RowStep → State → ℕ
step_spacing w i t st =
    momentum_spacing (w t.body1) (component i (vels_after t st).vel1.linear) + momentum_spacing (w t.body2) (component i (vels_after t st).vel2.linear)

-- from a model's bodies to another storage of them, the momentum sum changes by at most the bounds of the steps of n rounds together
abbrev pub SweepBound : (ℕ → ℕ) → Model → List Float → ℕ → List Float → Type 0
SweepBound w m rows n after =
    (i : Axis) → 2 * nat_abs (momentum_over w i m after -ℤ momentum_over w i m m.bodies) ≤ bounds_over plane (step_spacing w i) (sweep_steps plane m n) (state rows m.bodies)

-- R-13 for a sweep: any granted one of n rounds, of any model and rows, whose every step meets it
abbrev pub SweepDrift : Type 0
SweepDrift =
    (w : ℕ → ℕ) (m : Model) (rows : List Float) (n : ℕ)
    → refusal_of (run planar (sweep n) m rows).answer ≡ 0
    → Binary32Bodies m
    → EachStep plane (StepMeets w) (sweep_steps plane m n) (state rows m.bodies)
    → SweepBound w m rows n (run planar (sweep n) m rows).after.bodies

-- ---- where the rows have their bodies' inverse masses

-- Body b moves, and its two inverse masses are one power of two from 2^-20 to 2^20. The world's are zero.
pub record PowerOfTwo (w : ℕ) (bodies : List Float) (b : ℕ) : Type 0 where
  pub range : w ≤ 40
  pub mass : (i : Axis) → component i (solver_pose_at bodies b).im ≡ inverse_mass w

-- each row of each joint has the inverse masses of the joint's two bodies
abbrev pub RowsHaveMasses : Model → List Float → Type 0
RowsHaveMasses m rows =
    (j k : ℕ) → j < joint_count plane m.words m.numbers → k < row_count plane m.words j
    → HasInverseMasses (solver_pose_at m.bodies (body1_at m.words j)).im (solver_pose_at m.bodies (body2_at m.words j)).im (row_at rows (rows_before plane m.words j + k))

-- Then it is enough to ask for powers of two of the bodies: of a granted sweep of n rounds, at any moment.
abbrev pub DriftAt : Model → List Float → Type 0
DriftAt m rows =
    (w : ℕ → ℕ) (n : ℕ)
    → refusal_of (run planar (sweep n) m rows).answer ≡ 0
    → ((b : ℕ) → among b (named_bodies (round_steps plane m)) ≡ true → PowerOfTwo (w b) m.bodies b)
    → Binary32Bodies m
    → EachStep plane StepInRange (sweep_steps plane m n) (state rows m.bodies)
    → SweepBound w m rows n (run planar (sweep n) m rows).after.bodies

abbrev pub BuiltDrift : Type 0
BuiltDrift = (m : Model) (rows : List Float) → RowsHaveMasses m rows → DriftAt m rows

-- In a study that starts as its granted load left it they have them, after any list of calls, mask changes and motor tables among them. The calls may be any whose granted ones keep that, as a model's own do.
abbrev pub StudyDrift : Calls planar → Type 0
StudyDrift calls =
    (gs : List (Given (machine calls))) (s : Study (machine calls)) → Loaded calls s → DriftAt (after_calls gs s).model (after_calls gs s).rows
