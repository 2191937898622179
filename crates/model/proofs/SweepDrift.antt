-- R-13 over a sweep in the plane: any granted sweep whose every step meets what R-13 asks changes the momentum sum by at most its steps' bounds together (`sweep-drift`). The rows of a built study have
-- their bodies' inverse masses (`planar-carries`), so that these may be asked for instead of the rows': at any moment at which they have them (`built-drift`), so in a study of any calls that keep that
-- (`calls-drift`), and in one of a model's own (`study-drift`). Assumes nothing.
use mathlib.Core.Path.{◌≡◌, refl, sym, ap, ◌∙◌}
use mathlib.Core.Logic.{◌≢◌, inr}
use mathlib.Core.Bool.{Bool, true, false, cond}
use mathlib.Core.List.{List, [], ◌∷◌}
use Prim.Native.Nat.{ℕ, ◌+◌, ◌<◌}
use native.Mathlib.Omega.{arith}
use lib.Dec.{T, eqb, lit<, lit≤}
use lib.IntN.{ℤ}
use lib.Ieee.{Float, nan, inf, fin, of_bits}
use lib.Ieee.Bits.{is_true}
use Rattle.floats.specs.Vector.{Axis, X, component}
use Rattle.floats.specs.declared.vector.Vector.{Vector}
use Rattle.floats.specs.declared.pose.Pose.{Pose}
use Rattle.rows.specs.Momentum.{momentum_of, Binary32, HasInverseMasses}
use Rattle.rows.specs.Update.{blank_row}
use Rattle.rows.specs.Builder.{builder_update_of}
use Rattle.rows.specs.declared.joint_velocity_constraint.SolverVel.{SolverVel}
use Rattle.rows.proofs.StepDrift.{step-drifts, step-binary32-1, step-binary32-2}
use Rattle.rows.proofs.RowMasses.{every-at, built-masses, step-masses, bias-masses}
use Rattle.multibody.specs.Model.{Model}
use Rattle.multibody.specs.JointRows.{State, state}
use Rattle.multibody.specs.Calls.Call.{sweep}
use Rattle.multibody.specs.Traces.{after_calls}
use Rattle.multibody.specs.Studies.{Calls}
use Rattle.multibody.specs.SweepSteps.{RowStep, round_steps, sweep_steps, EachStep, among, named_bodies}
use Rattle.multibody.proofs.SweepSteps.{every-repeated, Covered, named-covers}
use Rattle.multibody.proofs.RowsCarry.{Carries, HasMasses, CallsKeep, granted-room, model-keeps, study-carried, sweep-carried}
use Rattle.multibody.proofs.SweepSums as AnySweep
use Rattle.multibody.proofs.SweepSums.{StepDrifts, each-with, granted-rules, granted-built}
use Rattle.model.specs.Layout.{body_width, pose_place, inertia_place, mass_place}
use Rattle.model.specs.Records.{num}
use Rattle.model.specs.Store.{world, world_pose, pose_of, row_at, vel_at, put_pose, solver_pose_at}
use Rattle.model.specs.Planar.{plane, planar}
use Rattle.model.specs.Studies.{planar_calls}
use Rattle.model.specs.SweepMomentum.{StepInRange, StepMeets, step_spacing, SweepDrift, PowerOfTwo, BuiltDrift, StudyDrift}
use Rattle.multibody.proofs.Strided.{num-beside}
use Rattle.model.proofs.StoreLaws.{solver_pose_at-world}
use Rattle.model.proofs.PlanarLaws.{planar-laws}

-- ---- rows have their bodies' inverse masses

-- a new pose leaves inverse masses as they were
pub place-masses : (b : List Float) (k : ℕ) (p : Pose) (i : ℕ) → (solver_pose_at (put_pose b k p) i).im ≡ (solver_pose_at b i).im
unfolding put_pose solver_pose_at
place-masses b k p i = go (eqb i world) (number mass_place (lit< tt) (lit< tt)) (number (mass_place + 1) (lit< tt) (lit< tt))
  where
    number : (c : ℕ) → 3 < c → c < body_width → num body_width (put_pose b k p) i c ≡ num body_width b i c
    number c l h = num-beside body_width b (p.rotation.re ∷ p.rotation.im ∷ p.translation.x ∷ p.translation.y ∷ []) k i pose_place c (lit≤ tt) h (inr l)

    go : (t : Bool) → num body_width (put_pose b k p) i mass_place ≡ num body_width b i mass_place → num body_width (put_pose b k p) i (mass_place + 1) ≡ num body_width b i (mass_place + 1)
        → (cond t world_pose
        (record {
          pose = pose_of (num body_width (put_pose b k p) i) pose_place;
          ii = num body_width (put_pose b k p) i inertia_place;
          im = record { x = num body_width (put_pose b k p) i mass_place; y = num body_width (put_pose b k p) i (mass_place + 1) };
        })).im
        ≡ (cond t world_pose
        (record { pose = pose_of (num body_width b i) pose_place; ii = num body_width b i inertia_place; im = record { x = num body_width b i mass_place; y = num body_width b i (mass_place + 1) } })).im
    go true e f = refl
    go false e f = cc

abbrev pub planar-carries : Carries planar-laws
planar-carries = record {
  Mass = Vector;
  mass_of = λ p. p.im;
  RowHas = HasInverseMasses;
  blank = blank_row;
  built = λ params substep warm b1 b2 a last i h. every-at (HasInverseMasses b1.im b2.im) (builder_update_of params substep warm b1 b2 a last) i (built-masses params substep warm b1 b2 a last) h;
  stepped = λ a b r v1 v2. step-masses a b r v1 v2;
  freed = λ a b r. bias-masses a b r;
  placed = place-masses;
}

-- ---- a granted sweep

module _ (w : ℕ → ℕ) (i : Axis) where
  -- a body's momentum, and a step that changes its two bodies' by at most its bound
  abbrev momentum : ℕ → SolverVel → ℤ
  momentum b x = momentum_of (w b) (component i x.linear)

  abbrev Drifts : RowStep → State → Type 0
  Drifts = StepDrifts planar-laws Binary32 (λ r v1 v2. step-binary32-1 r v1 v2) (λ r v1 v2. step-binary32-2 r v1 v2) momentum (step_spacing w i)

  drifts : (ts : List RowStep) (st : State) → EachStep plane (StepMeets w) ts st → EachStep plane Drifts ts st
  unfolding EachStep
  drifts [] st k = tt
  drifts (t ∷ ts) st k = (
    record {
      moves1 = k.0.moves1;
      moves2 = k.0.moves2;
      near = λ f1 f2. step-drifts (row_at st.rows t.row) (vel_at st.bodies t.body1) (vel_at st.bodies t.body2) (w t.body1) (w t.body2) k.0.masses f1 f2 k.0.values i;
    },
    drifts ts _ k.1,
  )

pub sweep-drift : SweepDrift
sweep-drift w m rows n g v a i =
    AnySweep.sweep-drift planar-laws Binary32 (λ r v1 v2. step-binary32-1 r v1 v2) (λ r v1 v2. step-binary32-2 r v1 v2) (momentum w i) (step_spacing w i) m rows n g v
    (drifts w i (sweep_steps plane m n) (state rows m.bodies) a)

-- ---- a body whose inverse mass is a power of two is not the world

significand : Float → ℕ
significand nan = 0
significand (inf s) = 0
significand (fin s m e) = m

power-moves : (w : ℕ) (bodies : List Float) (b : ℕ) → PowerOfTwo w bodies b → b ≢ world
unfolding of_bits significand
power-moves w bodies b h e =
    let z : ◌≡◌ {A = ℕ} 0 1 = ap significand (ap (λ p. p.im.x) (sym (solver_pose_at-world bodies)) ∙ ap (λ (i : ℕ). (solver_pose_at bodies i).im.x) (sym e) ∙ h.mass X) in omega arith

-- ---- where the rows have their bodies' inverse masses, and these are powers of two, every step meets what R-13 asks of masses

module _ (m : Model) (w : ℕ → ℕ) (bs : List ℕ) (masses : (b : ℕ) → T (among b bs) → PowerOfTwo (w b) m.bodies b) where
  meets : (t : RowStep) (st : State) → Covered bs t → HasMasses planar-laws planar-carries m st.rows t → StepInRange t st → StepMeets w t st
  meets t st c o v =
      let p1 = masses t.body1 c.0 in
      let p2 = masses t.body2 c.1 in
      record {
        moves1 = power-moves (w t.body1) m.bodies t.body1 p1;
        moves2 = power-moves (w t.body2) m.bodies t.body2 p2;
        masses = record {
          range1 = p1.range;
          range2 = p2.range;
          mass1 = λ i. ap (component i) o.first ∙ p1.mass i;
          mass2 = λ i. ap (component i) o.second ∙ p2.mass i;
        };
        values = v;
      }

pub built-drift : BuiltDrift
built-drift m rows own w n g masses v a =
    let e = granted-rules planar-laws m rows n g in
    let ok = granted-room planar-laws (sweep n) m rows true refl e in
    let bs = named_bodies (round_steps plane m) in
    sweep-drift w m rows n g v
    (each-with plane bs (λ t st. HasMasses planar-laws planar-carries m st.rows t) StepInRange (StepMeets w) (meets m w bs (λ b k. masses b (is_true (among b bs) k)))
    (sweep_steps plane m n) (state rows m.bodies) (every-repeated (Covered bs) (round_steps plane m) (named-covers (round_steps plane m)) n)
    (sweep-carried planar-laws planar-carries m rows n ok.0 ok.1 own) a)

-- ---- a study

-- of any calls that keep the rows' inverse masses: those of a machine above the model may be such too
pub calls-drift : (calls : Calls planar) → CallsKeep planar-laws planar-carries calls → StudyDrift calls
calls-drift calls ok gs s l w n g =
    let m = (after_calls gs s).model in
    let rows = (after_calls gs s).rows in
    built-drift m rows (study-carried planar-laws planar-carries calls ok gs s l (granted-built planar-laws m rows n (granted-rules planar-laws m rows n g))) w n g

pub study-drift : StudyDrift planar_calls
study-drift = calls-drift planar_calls (model-keeps planar-laws planar-carries)
