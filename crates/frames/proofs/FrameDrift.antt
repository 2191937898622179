-- Document 02, R-13, in lists that mix the model's calls with frames: a frame keeps that the rows have their bodies' inverse masses (`frame-kept`), so that a granted sweep after any such list moves the exact momentum sum
-- by at most its steps' bounds together (`moving-drift`). Assumes nothing.
use Rattle.std.proofs.Common.{◌≡◌, ℕ, zero, suc, ◌+◌, ◌-◌, Bool, true, false, cond, eqb, List, refl, ◌∙◌, Option}
use lib.Ieee.{Float}
use Rattle.multibody.specs.Rules.{refusal}
use Rattle.multibody.specs.Model.{Model}
use Rattle.multibody.specs.Counts.{body_count}
use Rattle.multibody.specs.Calls.{Call, outcome}
use Rattle.multibody.specs.Calls.Call.{build, warm_start, sweep, remove_bias, write_back}
use Rattle.multibody.specs.Calls.Answer.{refused}
use Rattle.multibody.specs.Traces.{Study}
use Rattle.multibody.specs.Studies.{machine, Loaded}
use Rattle.multibody.proofs.CallTurns.{loaded-start}
use Rattle.multibody.proofs.RowsCarry.{Kept, CallsKeep, same-masses, run-kept}
use Rattle.model.specs.Store.{solver_pose_at, put_pose}
use Rattle.model.specs.Refusals.{finite_pose}
use Rattle.model.specs.Planar.{plane, planar}
use Rattle.model.specs.SweepMomentum.{StudyDrift}
use Rattle.model.proofs.PlanarLaws.{planar-laws}
use Rattle.model.proofs.SweepDrift.{place-masses, planar-carries, calls-drift}
use Rattle.frames.specs.Moving.{moved, move_from, new_pose}
use Rattle.frames.specs.Frames.{Moment, moment, Progress, progress, leaves, before_move, move_of, moved_moment, after_move, substep, substeps, steps_of, all_substeps, frame_rules, granted_frame, run_frame, with_dt, substep_of}
use Rattle.frames.specs.Studies.{MovingCall, moving_calls}
use Rattle.frames.specs.Studies.MovingCall.{plain, frame}

-- where the model of a moment is marked built, its rows have their bodies' inverse masses
abbrev KeptAt : Moment → Type 0
KeptAt s = Kept planar-laws planar-carries s.model s.rows

leaves_kept : (c : Call planar) (s : Moment) → KeptAt s → KeptAt (leaves c s)
leaves_kept c s k = run-kept planar-laws planar-carries c s.model s.rows k

-- a move changes no inverse mass
move-masses : (h : Float) (n i : ℕ) (b : List Float) (q : ℕ) → (solver_pose_at (move_from h i n b).bodies q).im ≡ (solver_pose_at b q).im
unfolding move_from
move-masses h zero i b q = refl
move-masses h (suc n) i b q = go (finite_pose (new_pose h b i)) (move-masses h n (i + 1) (put_pose b i (new_pose h b i)) q)
  where
    go : (t : Bool) → (solver_pose_at (move_from h (i + 1) n (put_pose b i (new_pose h b i))).bodies q).im ≡ (solver_pose_at (put_pose b i (new_pose h b i)) q).im
        → (solver_pose_at (cond t (move_from h (i + 1) n (put_pose b i (new_pose h b i))) (moved b false)).bodies q).im ≡ (solver_pose_at b q).im
    go true e = e ∙ place-masses b i (new_pose h b i) q
    go false e = refl

moved-kept : (s : Moment) → KeptAt s → KeptAt (moved_moment s)
unfolding move_of
moved-kept s k b =
    same-masses planar-laws planar-carries s.model s.model.params s.model.built (move_of s).bodies s.model.numbers s.rows refl
    (move-masses s.model.params.dt (body_count plane s.model.bodies) 0 s.model.bodies) (k b)

module _ (warm : Option Float) (sweeps : ℕ) where
  before-kept : (i : ℕ) (s : Moment) → KeptAt s → KeptAt (before_move warm sweeps i s)
  unfolding before_move
  before-kept i s k =
      leaves_kept (sweep sweeps) (leaves warm_start (leaves (build warm i) s)) (leaves_kept warm_start (leaves (build warm i) s) (leaves_kept (build warm i) s k))

  after_kept : (s : Moment) → KeptAt s → KeptAt (after_move sweeps s).left
  unfolding after_move
  after_kept s k = leaves_kept (sweep sweeps) (leaves remove_bias s) (leaves_kept remove_bias s k)

  substep-kept : (i : ℕ) (s : Moment) → KeptAt s → KeptAt (substep warm sweeps i s).left
  unfolding substep
  substep-kept i s k = go (move_of (before_move warm sweeps i s)).finite (moved-kept (before_move warm sweeps i s) (before-kept i s k))
    where
      go : (t : Bool) → KeptAt (moved_moment (before_move warm sweeps i s))
          → KeptAt (cond t (after_move sweeps (moved_moment (before_move warm sweeps i s))) (progress false (moved_moment (before_move warm sweeps i s)) (refused 6))).left
      go true k = after_kept (moved_moment (before_move warm sweeps i s)) k
      go false k = k

  substeps-kept : (n i : ℕ) (p : Progress) → KeptAt p.left → KeptAt (substeps warm sweeps i n p).left
  unfolding substeps
  substeps-kept zero i p k = k
  substeps-kept (suc n) i p k = go p.finite (substeps-kept n (i + 1) (substep warm sweeps i p.left) (substep-kept i p.left k))
    where
      go : (t : Bool) → KeptAt (substeps warm sweeps (i + 1) n (substep warm sweeps i p.left)).left → KeptAt (cond t (substeps warm sweeps (i + 1) n (substep warm sweeps i p.left)) p).left
      go true next = next
      go false next = k

  module _ (n : ℕ) (m : Model) (rows : List Float) (k : Kept planar-laws planar-carries m rows) where
    all-kept : KeptAt (all_substeps warm sweeps n m rows).left
    unfolding all_substeps steps_of
    all-kept =
        let s = moment (with_dt m (substep_of m.params.dt n)) rows in
        substeps-kept (n - 1) 1 (substep warm sweeps 0 s) (substep-kept 0 s k)

    granted-kept : Kept planar-laws planar-carries (granted_frame warm sweeps n m rows).after (granted_frame warm sweeps n m rows).rows
    unfolding granted_frame
    granted-kept = leaves_kept write_back (all_substeps warm sweeps n m rows).left all-kept

    pub frame-kept : Kept planar-laws planar-carries (run_frame warm sweeps n m rows).after (run_frame warm sweeps n m rows).rows
    unfolding run_frame
    frame-kept = go (eqb (refusal (frame_rules warm sweeps n m rows)) 0)
      where
        go : (t : Bool)
            → let o = cond t (granted_frame warm sweeps n m rows) (outcome (refused (refusal (frame_rules warm sweeps n m rows))) m rows) in
            Kept planar-laws planar-carries o.after o.rows
        go true = granted-kept
        go false = k

-- ---- lists of calls and frames

moving-start : (s : Study (machine moving_calls)) → Loaded moving_calls s → s.model.built ≡ false
moving-start s l = (loaded-start planar-laws (record { model = s.model; rows = s.rows }) (record { handed_over = l.handed_over; by_load = l.by_load })).1

moving-turn : (c : MovingCall) (m : Model) (rows : List Float) → Kept planar-laws planar-carries m rows
    → Kept planar-laws planar-carries (moving_calls.run c m rows).after (moving_calls.run c m rows).rows
moving-turn (plain c) m rows k = run-kept planar-laws planar-carries c m rows k
moving-turn (frame warm sweeps n) m rows k = frame-kept warm sweeps n m rows k

pub moving-keeps : CallsKeep planar-laws planar-carries moving_calls
moving-keeps = record { turn = moving-turn; start = moving-start }

pub moving-drift : StudyDrift moving_calls
moving-drift = calls-drift moving_calls moving-keeps
