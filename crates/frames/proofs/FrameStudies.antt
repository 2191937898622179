-- Two studies that move: what two related studies share, each call of a frame and each move keeps. So a frame that is granted in both leaves them related, and what
-- it counts for a joint of the set's is the same (`frame-related`).
use Rattle.std.proofs.Common.{◌≡◌, ℕ, zero, suc, ◌+◌, ◌-◌, ◌<◌, Bool, true, not, List, sym, refl, ap, ◌∙◌, arith, Option}
use mathlib.Core.Bool.{false≢true}
use mathlib.Core.List.{Memᴰ}
use lib.Ieee.{Float, lt}
use Rattle.floats.specs.Operators.{bits}
use Rattle.floats.specs.Scalar.{is_finite}
use Rattle.rows.specs.declared.integration_parameters.IntegrationParameters.{IntegrationParameters}
use Rattle.rows.specs.declared.joint_constraint_builder.SolverPose.{SolverPose}
use Rattle.rows.specs.declared.joint_velocity_constraint.WritebackId.{WritebackId}
use Rattle.multibody.specs.Model.{Model}
use Rattle.multibody.specs.JointRows.{joint_ids}
use Rattle.multibody.specs.Counts.{joint_count, Room}
use Rattle.multibody.specs.Refusals.{finite_params}
use Rattle.multibody.specs.Calls.{Call, Outcome, run, granted_of, call_table}
use Rattle.multibody.specs.Calls.Call.{build, warm_start, sweep, remove_bias, write_back}
use Rattle.multibody.specs.Studies.{Ties, Inside, OfSet, BothOrNeither, SameFurther, count_of, model_calls}
use Rattle.multibody.proofs.Tests.{by_cases}
use Rattle.multibody.proofs.RuleLaws.{both}
use Rattle.multibody.proofs.Keeps.{BringsNone, run-cases}
use Rattle.multibody.proofs.Agrees.{agree_after, of-set-before}
use Rattle.multibody.proofs.CallTurns.{Related}
use Rattle.multibody.proofs.TwoStudies.{Tells, model-comparable}
use Rattle.model.specs.Planar.{plane, planar}
use Rattle.model.specs.Store.{solver_pose_at, body1_at, body2_at}
use Rattle.model.proofs.StoreLaws.{with_pose}
use Rattle.model.proofs.PlanarLaws.{planar-laws}
use Rattle.frames.specs.Moving.{new_pose}
use Rattle.frames.specs.Frames.{with_dt, substep_of, all_substeps, granted_frame, Moment, moment, leaves, moved_moment, Progress, before_move, move_of, after_move, substep, substeps, steps_of}
use Rattle.frames.proofs.FrameLaws.{once-stopped}
use Rattle.frames.proofs.MovedLaws.{new-same, moved_as, moved-held}
use Rattle.frames.proofs.InnerLaws.{dt-held, room-kept}

-- ---- two studies

module _ (set : ℕ → Bool) {named : ℕ → WritebackId → Type 0} where
  module _ (m m' : Model) (rows rows' : List Float) (r : Related planar-laws set named m m' rows rows') where
    pub move-related : (move_of (moment m rows)).finite ≡ true → (move_of (moment m' rows')).finite ≡ true
        → Related planar-laws set named (moved_moment (moment m rows)).model (moved_moment (moment m' rows')).model rows rows'
    unfolding move_of
    move-related f f' =
        let a = moved_as m r.held f in
        let a' = moved_as m' r.held' f' in
        let step : m.params.dt ≡ m'.params.dt = rw r.agree.params in
        record {
          held = moved-held m r.held _ a.size a.fine;
          held' = moved-held m' r.held' _ a'.size a'.fine;
          agree = agree_after plane set m m' m.built m'.built _ _ m.numbers m'.numbers a.size a'.size refl refl r.agree
              (λ i s.
              let l = r.agree.present i s in
              a.moves i (omega arith) (omega (arith, l.0)) ∙ ap (λ (q : SolverPose). with_pose q (new_pose m.params.dt m.bodies i)) (r.agree.poses i s)
              ∙ ap (with_pose (solver_pose_at m'.bodies i)) (new-same m.params.dt m.bodies m'.bodies i (r.agree.poses i s) (r.agree.velocities i s) ∙ ap (λ (h : Float). new_pose h m'.bodies i) step)
              ∙ sym (a'.moves i (omega arith) (omega (arith, l.1))))
              (λ i s. a.vels i ∙ r.agree.velocities i s ∙ sym (a'.vels i))
              r.agree.contents;
          mark = r.mark;
          same_rows = λ e j o. r.same_rows e j (of-set-before plane set m m.built _ m.numbers refl j o);
        }

    -- another timestep
    module _ (h : Float) (fine : is_finite h ≡ true) (forward : not (lt h (bits 0)) ≡ true) where
      dt-ties : (q : Model) (j : ℕ) → Ties plane (with_dt q h) j → Ties plane q j
      dt-ties q j t = record { there = t.there; enabled = t.enabled; body1 = t.body1; body2 = t.body2 }

      dt-of : (q : Model) (j : ℕ) → OfSet plane set (with_dt q h) j → OfSet plane set q j
      dt-of q j o = record { there = o.there; inside1 = o.inside1; inside2 = o.inside2 }

      of-dt : (q : Model) (j : ℕ) → OfSet plane set q j → OfSet plane set (with_dt q h) j
      of-dt q j o = record { there = o.there; inside1 = o.inside1; inside2 = o.inside2 }

      pub dt-related : Related planar-laws set named (with_dt m h) (with_dt m' h) rows rows'
      dt-related = record {
        held = dt-held h fine forward m r.held;
        held' = dt-held h fine forward m' r.held';
        agree = record {
          params = rw r.agree.params;
          closed = λ j t. r.agree.closed j (dt-ties m j t);
          closed' = λ j t. r.agree.closed' j (dt-ties m' j t);
          present = r.agree.present;
          poses = r.agree.poses;
          velocities = r.agree.velocities;
          joints = λ j o. of-dt m' j (r.agree.joints j (dt-of m j o));
          joints' = λ j o. of-dt m j (r.agree.joints' j (dt-of m' j o));
          bodies1 = λ j o. r.agree.bodies1 j (dt-of m j o);
          bodies2 = λ j o. r.agree.bodies2 j (dt-of m j o);
          contents = λ j o. r.agree.contents j (dt-of m j o);
        };
        mark = r.mark;
        same_rows = λ e j o. r.same_rows e j (dt-of m j o);
      }

-- ---- the calls of a frame

-- a call that keeps the joints
abbrev Joints : Call planar → Type 0
Joints c = (m : Model) (r : List Float) → ((run planar c m r).after.words ≡ m.words) × ((run planar c m r).after.numbers ≡ m.numbers)

abbrev KeptBy : (c : Call planar) → Type 0
KeptBy c = (m : Model) (r : List Float) → ((granted_of planar c m r).after.words ≡ m.words) × ((granted_of planar c m r).after.numbers ≡ m.numbers)

keeps-joints : (c : Call planar) → KeptBy c → Joints c
keeps-joints c k m r = run-cases planar-laws c m r (λ (o : Outcome plane). (o.after.words ≡ m.words) × (o.after.numbers ≡ m.numbers)) (λ _. k m r) (refl, refl)

module _ (set : ℕ → Bool) {named : ℕ → WritebackId → Type 0} (w : List ℕ) (ns : List Float) (gives : (j : ℕ) (id : WritebackId) → Memᴰ id (joint_ids plane w j) → named j id) where
  pub record Here (s s' : Moment) : Type 0 where
    pub related : Related planar-laws set named s.model s'.model s.rows s'.rows
    pub words : s.model.words ≡ w
    pub numbers : s.model.numbers ≡ ns
    pub room : Room plane s.model s.rows
    pub room' : Room plane s'.model s'.rows

  -- a joint of the set's, by the words and numbers of the frame's start
  pub record Joint (j : ℕ) : Type 0 where
    pub there : j < joint_count plane w ns
    pub inside1 : Inside plane set (body1_at w j)
    pub inside2 : Inside plane set (body2_at w j)

  joint-here : (j : ℕ) (s s' : Moment) → Here s s' → Joint j → OfSet plane set s.model j
  joint-here j s s' h o = record { there = rw (h.words, h.numbers) o.there; inside1 = rw h.words o.inside1; inside2 = rw h.words o.inside2 }

  -- a call of a frame: it brings no masks, asks for nothing and may be granted in one study alone
  pub record Inner (c : Call planar) : Type 0 where
    pub masks : BringsNone (call_table planar c).masks
    pub asked : (m m' : Model) → SameFurther planar m m' (call_table planar c).asked
    pub alike : (k k' : ℕ) → BothOrNeither (call_table planar c).alike k k'

  call-tells : (c : Call planar) → Inner c → (s s' : Moment) → Here s s'
      → Tells planar-laws (model_calls planar) set named c s.model s'.model (run planar c s.model s.rows) (run planar c s'.model s'.rows)
  call-tells c i s s' h =
      (model-comparable planar-laws).turn set named c s.model s'.model s.rows s'.rows h.related
      (record { room = λ _. (h.room, h.room'); further = i.asked s.model s'.model; alike = i.alike _ _; gives = λ _ j id d. gives j id (rw h.words at d) })

  call-here : (c : Call planar) → Inner c → Joints c → (s s' : Moment) → Here s s' → Here (leaves c s) (leaves c s')
  call-here c i joints s s' h = record {
    related = (call-tells c i s s' h).related;
    words = (joints s.model s.rows).0 ∙ h.words;
    numbers = (joints s.model s.rows).1 ∙ h.numbers;
    room = room-kept c i.masks s h.room;
    room' = room-kept c i.masks s' h.room';
  }

  -- after the last sweep: what is left, and what was counted for the set's joints
  pub record Told (p p' : Progress) : Type 0 where
    pub here : Here p.left p'.left
    pub counts : (j : ℕ) → Joint j → count_of j p.answer ≡ count_of j p'.answer

  module _ (warm : Option Float) (sweeps : ℕ) where
    sweep-joints : Joints (sweep sweeps)
    unfolding granted_of
    sweep-joints = keeps-joints (sweep sweeps) (λ m r. (refl, refl))

    before_here : (i : ℕ) (s s' : Moment) → Here s s' → Here (before_move warm sweeps i s) (before_move warm sweeps i s')
    unfolding before_move granted_of
    before_here i s s' h =
        let a = call-here (build warm i) (record { masks = tt; asked = λ m m'. tt; alike = λ k k'. tt }) (keeps-joints (build warm i) (λ m r. (refl, refl))) s s' h in
        let b = call-here warm_start (record { masks = tt; asked = λ m m'. tt; alike = λ k k'. tt }) (keeps-joints warm_start (λ m r. (refl, refl))) _ _ a in
        call-here (sweep sweeps) (record { masks = tt; asked = λ m m'. tt; alike = λ k k'. tt }) sweep-joints _ _ b

    after-here : (s s' : Moment) → Here s s' → Told (after_move sweeps s) (after_move sweeps s')
    unfolding after_move granted_of
    after-here s s' h =
        let a = call-here remove_bias (record { masks = tt; asked = λ m m'. tt; alike = λ k k'. tt }) (keeps-joints remove_bias (λ m r. (refl, refl))) s s' h in
        record {
          here = call-here (sweep sweeps) (record { masks = tt; asked = λ m m'. tt; alike = λ k k'. tt }) sweep-joints _ _ a;
          counts = λ j o. (call-tells (sweep sweeps) (record { masks = tt; asked = λ m m'. tt; alike = λ k k'. tt }) _ _ a).counts j (joint-here j _ _ a o);
        }

    move-here : (s s' : Moment) → Here s s' → (move_of s).finite ≡ true → (move_of s').finite ≡ true → Here (moved_moment s) (moved_moment s')
    move-here s s' h f f' = record {
      related = move-related set s.model s'.model s.rows s'.rows h.related f f';
      words = h.words;
      numbers = h.numbers;
      room = h.room;
      room' = h.room';
    }

    -- a substep that stays finite in both
    substep-here : (i : ℕ) (s s' : Moment) → Here s s' → (substep warm sweeps i s).finite ≡ true → (substep warm sweeps i s').finite ≡ true
        → Told (substep warm sweeps i s) (substep warm sweeps i s')
    unfolding substep
    substep-here i s s' h f f' =
        let t = before_move warm sweeps i s in
        let t' = before_move warm sweeps i s' in
        let b = before_here i s s' h in
        by_cases (move_of t).finite
        (λ g. by_cases (move_of t').finite
        (λ g'. rw (g, g') (after-here (moved_moment t) (moved_moment t') (move-here t t' b g g')))
        (λ g'. absurd (false≢true (rw g' at f'))))
        (λ g. absurd (false≢true (rw g at f)))

    -- and so all of them; the last is finite only where each is
    substeps-here : (n i : ℕ) (p p' : Progress) → p.finite ≡ true → p'.finite ≡ true → Told p p' → (substeps warm sweeps i n p).finite ≡ true → (substeps warm sweeps i n p').finite ≡ true
        → Told (substeps warm sweeps i n p) (substeps warm sweeps i n p')
    unfolding substeps
    substeps-here zero i p p' e e' h f f' = h
    substeps-here (suc n) i p p' e e' h f f' =
        let q = substep warm sweeps i p.left in
        let q' = substep warm sweeps i p'.left in
        let g = rw e at f in
        let g' = rw e' at f' in
        rw (e, e')
        (by_cases q.finite
        (λ d. by_cases q'.finite
        (λ d'. substeps-here n (i + 1) q q' d d' (substep-here i p.left p'.left h.here d d') g g')
        (λ d'. absurd (false≢true (sym (once-stopped warm sweeps n (i + 1) q' d') ∙ g'))))
        (λ d. absurd (false≢true (sym (once-stopped warm sweeps n (i + 1) q d) ∙ g))))

    pub steps-here : (n : ℕ) (s s' : Moment) → Here s s' → (steps_of warm sweeps n s).finite ≡ true → (steps_of warm sweeps n s').finite ≡ true
        → Told (steps_of warm sweeps n s) (steps_of warm sweeps n s')
    unfolding steps_of
    steps-here n s s' h f f' =
        let q = substep warm sweeps 0 s in
        let q' = substep warm sweeps 0 s' in
        by_cases q.finite
        (λ d. by_cases q'.finite
        (λ d'. substeps-here (n - 1) 1 q q' d d' (substep-here 0 s s' h d d') f f')
        (λ d'. absurd (false≢true (sym (once-stopped warm sweeps (n - 1) 1 q' d') ∙ f'))))
        (λ d. absurd (false≢true (sym (once-stopped warm sweeps (n - 1) 1 q d) ∙ f)))

    -- write back after the last
    pub back-here : (s s' : Moment) → Here s s' → Related planar-laws set named (leaves write_back s).model (leaves write_back s').model (leaves write_back s).rows (leaves write_back s').rows
    back-here s s' h = (call-tells write_back (record { masks = tt; asked = λ m m'. tt; alike = λ k k'. tt }) s s' h).related

-- ---- a frame that is granted in both

module _ (set : ℕ → Bool) {named : ℕ → WritebackId → Type 0} (m m' : Model) (rows rows' : List Float) (r : Related planar-laws set named m m' rows rows') (room : Room plane m rows) (room' : Room plane m' rows')
    (gives : (j : ℕ) (id : WritebackId) → Memᴰ id (joint_ids plane m.words j) → named j id) (warm : Option Float) (sweeps n : ℕ)
    (fine : is_finite (substep_of m.params.dt n) ≡ true) (forward : not (lt (substep_of m.params.dt n) (bits 0)) ≡ true) where
  start-here : Here set m.words m.numbers gives (moment (with_dt m (substep_of m.params.dt n)) rows) (moment (with_dt m' (substep_of m.params.dt n)) rows')
  start-here = record {
    related = dt-related set m m' rows rows' r (substep_of m.params.dt n) fine forward;
    words = refl;
    numbers = refl;
    room = room;
    room' = room';
  }

  same-substep : substep_of m.params.dt n ≡ substep_of m'.params.dt n
  same-substep = rw r.agree.params

  -- the two studies are related after it, with their own timestep again; and what its last sweep counts for a joint of the set's is the same
  pub frame-related : (all_substeps warm sweeps n m rows).finite ≡ true → (all_substeps warm sweeps n m' rows').finite ≡ true
      → Related planar-laws set named (granted_frame warm sweeps n m rows).after (granted_frame warm sweeps n m' rows').after (granted_frame warm sweeps n m rows).rows (granted_frame warm sweeps n m' rows').rows
      × ((j : ℕ) → OfSet plane set m j → count_of j (granted_frame warm sweeps n m rows).answer ≡ count_of j (granted_frame warm sweeps n m' rows').answer)
  unfolding granted_frame all_substeps finite_params
  frame-related f f' =
      let t = steps-here set m.words m.numbers gives warm sweeps n _ _ start-here f (rw (← same-substep) at f') in
      let b = back-here set m.words m.numbers gives warm sweeps _ _ t.here in (
        rw (← same-substep, ← (ap (λ (p : IntegrationParameters). p.dt) r.agree.params))
            (dt-related set _ _ _ _ b m.params.dt (both (is_finite m.params.dt) _ r.held.finite-params).0 r.held.dt),
        λ j o. rw (← same-substep) (t.counts j (record { there = o.there; inside1 = o.inside1; inside2 = o.inside2 })),
      )
