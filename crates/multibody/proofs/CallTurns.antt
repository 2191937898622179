-- One call of two studies (demand 3), for any kind of system that has the laws: what two studies share from call to call (`Related`): rules 1 to 7 and those of the kind hold of both models, they agree on the
-- set, their marks are equal, and the rows of the set's joints are the same while the models are built. Each call of a model keeps it (`turn`), its answers about the set are the same, a sweep's counts of
-- the set's joints too (`counts-alike`), and it is refused alike where both models have what it asks for, or neither has it (`refused-alike`).
use Rattle.std.specs.Prelude.{Option}
use Prim.Native.Nat.{ℕ}
use mathlib.Core.Path.{◌≡◌, refl, sym, ap, ◌∙◌}
use mathlib.Core.Logic.{◌≢◌}
use mathlib.Core.Bool.{Bool, true, false, true≢false, false≢true}
use mathlib.Core.List.{List, [], ◌∷◌, ◌++◌, Memᴰ}
use native.Mathlib.Omega.{arith}
use borrow.Author.Tests.{eqb-true, eqb-false}
use lib.Dec.{eqb}
use lib.ListN.{length}
use lib.Ieee.{Float}
use Rattle.rows.specs.declared.joint_velocity_constraint.WritebackId.{WritebackId}
use Rattle.multibody.specs.Rules.{refusal}
use Rattle.multibody.specs.Model.{Model, world, model, with_bodies}
use Rattle.multibody.specs.System.{System}
use Rattle.multibody.specs.JointRows.{joint_ids}
use Rattle.multibody.specs.Counts.{joint_count, Sound, Room}
use Rattle.multibody.specs.Refusals.{model_rules, storage_rule, sweep_rule, built_rule, seeds_rule, joint_rule, reads_rows}
use Rattle.multibody.specs.Calls.{Call, Outcome, call_table, rules_of, granted_of, run, refusal_of}
use Rattle.multibody.specs.Calls.Call.{load, place, build, warm_start, sweep, remove_bias, write_back, read_rows, read_velocity, set_masks, further}
use Rattle.multibody.specs.Calls.Answer.{granted, velocity_read, refused}
use Rattle.multibody.specs.Calls.Asked.{body, joint}
use Rattle.multibody.specs.Traces.{Study}
use Rattle.multibody.specs.Studies.{OfSet, Agree, without_total, count_of, AboutSet, SameAsked, SameFurther, BothOrNeither, model_calls, machine, Loaded, MakesRows}
use Rattle.multibody.proofs.Tests.{by_cases}
use Rattle.multibody.proofs.Laws.{Laws}
use Rattle.multibody.proofs.CountLaws.{body-there}
use Rattle.multibody.proofs.RefusalLaws.{RulesHold, rules-hold, sound-held}
use Rattle.multibody.proofs.Rewording.{agree-firsts, agree-masked}
use Rattle.multibody.proofs.CallLaws.{run-granted, run-refused, own-rule}
use Rattle.multibody.proofs.RefusedExactly.{told}
use Rattle.multibody.proofs.Keeps.{SamePoses, warm-keeps, sweep-keeps, back-keeps, granted-front, further-granted, run-cases, run_holds}
use Rattle.multibody.proofs.SameStudies.{RowsSame, VelsSame}
use Rattle.multibody.proofs.JointRowsLaws.{same-ids}
use Rattle.multibody.proofs.Agrees.{of-set-before, agree_after}
use Rattle.multibody.proofs.WriteBackLocality.{write-back-agrees}
use Rattle.multibody.proofs.CallLocality.{warm-start-same, sweep-same, counts_same, bias-same, build-same}
use Rattle.multibody.proofs.SameRefusals.{about-asked, same-refusal}

module _ {sys : System} (laws : Laws sys) where
  open sys use {store, NewMasks, Further}
  open store use {Pose, SolverPose, solver_pose_at, vel_at, put_pose}

  -- ---- what a granted call's rules say of the model

  module _ (m : Model) (rows : List Float) where
    built-warm : refusal (rules_of sys warm_start m rows) ≡ 0 → m.built ≡ true
    unfolding built_rule
    built-warm e = own-rule laws 10 warm_start m rows e

    built-sweep : (n : ℕ) → refusal (rules_of sys (sweep n) m rows) ≡ 0 → m.built ≡ true
    unfolding sweep_rule built_rule
    built-sweep n e = own-rule laws 10 (sweep n) m rows e

    built-back : refusal (rules_of sys write_back m rows) ≡ 0 → m.built ≡ true
    unfolding built_rule
    built-back e = own-rule laws 10 write_back m rows e

    built-read : (j : ℕ) → refusal (rules_of sys (read_rows j) m rows) ≡ 0 → m.built ≡ true
    unfolding built_rule joint_rule
    built-read j e = own-rule laws 10 (read_rows j) m rows e

    -- a build that reads the rows of the last one is of a model marked built
    built-build : (warm : Option Float) (substep : ℕ) → refusal (rules_of sys (build warm substep) m rows) ≡ 0 → reads_rows warm substep ≡ true → m.built ≡ true
    unfolding seeds_rule
    built-build warm substep e r =
        let t = own-rule laws 10 (build warm substep) m rows e in
        by_cases m.built (λ b. b) (λ b. absurd (false≢true (rw (b, r) at t)))

  -- ---- one call

  -- what two studies share from call to call
  pub record Related (set : ℕ → Bool) (named : ℕ → WritebackId → Type 0) (m m' : Model) (rows rows' : List Float) : Type 0 where
    pub held : RulesHold laws m
    pub held' : RulesHold laws m'
    pub agree : Agree store set named m m'
    pub mark : m.built ≡ m'.built
    pub same_rows : m.built ≡ true → RowsSame store set m m' rows rows'

  -- after a call: what is shared of the models and the rows, and the answers
  pub record Next (set : ℕ → Bool) (named : ℕ → WritebackId → Type 0) (m : Model) (c : Call sys) (o o' : Outcome store) : Type 0 where
    pub agree : Agree store set named o.after o'.after
    pub mark : o.after.built ≡ o'.after.built
    pub same_rows : o.after.built ≡ true → RowsSame store set o.after o'.after o.rows o'.rows
    pub answer : AboutSet sys set m (call_table sys c).asked → without_total o.answer ≡ without_total o'.answer

  -- a call that changes nothing where it is granted
  left_alone : (c : Call sys) (m : Model) (rows : List Float) → (granted_of sys c m rows).after ≡ m → (granted_of sys c m rows).rows ≡ rows → ((run sys c m rows).after ≡ m) × ((run sys c m rows).rows ≡ rows)
  left_alone c m rows e f = run-cases laws c m rows (λ o. (o.after ≡ m) × (o.rows ≡ rows)) (λ _. (e, f)) (refl, refl)

  -- a call that changes the poses of bodies outside the set at most
  record Elsewhere (set : ℕ → Bool) (m : Model) (given : List Float) (o : Outcome store) : Type 0 where
    bodies : List Float
    changed : o.after ≡ with_bodies m bodies
    rows_left : o.rows ≡ given
    size : length bodies ≡ length m.bodies
    poses : (i : ℕ) → set i ≡ true → solver_pose_at bodies i ≡ solver_pose_at m.bodies i
    velocities : (i : ℕ) → vel_at bodies i ≡ vel_at m.bodies i

  place-elsewhere : (set : ℕ → Bool) (m : Model) (rows : List Float) (i : ℕ) (pose : Pose) → set i ≡ false → Elsewhere set m rows (run sys (place i pose) m rows)
  unfolding granted_of
  place-elsewhere set m rows i pose f =
      run-cases laws (place i pose) m rows (Elsewhere set m rows)
      (λ _. record {
        bodies = put_pose m.bodies i pose;
        changed = refl;
        rows_left = refl;
        size = laws.length-put_pose m.bodies i pose;
        poses = λ i' s. laws.solver_pose_at-put_pose-other m.bodies i i' pose (λ e. true≢false (sym s ∙ ap set e ∙ f));
        velocities = λ i'. laws.vel_at-put_pose m.bodies i i' pose;
      })
      (record { bodies = m.bodies; changed = refl; rows_left = refl; size = refl; poses = λ i' s. refl; velocities = λ i'. refl })

  module _ (set : ℕ → Bool) {named : ℕ → WritebackId → Type 0} (m m' : Model) (rows rows' : List Float) (b : Related set named m m' rows rows') where
    -- a call that is refused alike: both are refused, or both are granted
    alike : (c : Call sys) → SameAsked sys m m' (call_table sys c).asked → ((call_table sys c).row_storage ≡ true → Room store m rows × Room store m' rows')
        → BothOrNeither (call_table sys c).alike (refusal (rules_of sys c m rows)) (refusal (rules_of sys c m' rows'))
        → (refusal (rules_of sys c m rows) ≡ 0 → refusal (rules_of sys c m' rows') ≡ 0 → Next set named m c (granted_of sys c m rows) (granted_of sys c m' rows'))
        → Next set named m c (run sys c m rows) (run sys c m' rows')
    alike c a room k g =
        let e = same-refusal laws m m' b.held b.held' b.mark rows rows' c a room k in
        by_cases (eqb (refusal (rules_of sys c m rows)) 0)
        (λ t.
        let z = eqb-true (refusal (rules_of sys c m rows)) 0 t in
        rw (← (run-granted c m rows z), ← (run-granted c m' rows' (sym e ∙ z))) (g z (sym e ∙ z)))
        (λ t.
        let n = eqb-false (refusal (rules_of sys c m rows)) 0 t in
        rw (← (run-refused c m rows refl n), ← (run-refused c m' rows' refl (λ z. n (e ∙ z))))
        (record { agree = b.agree; mark = b.mark; same_rows = b.same_rows; answer = λ _. ap refused e }))

    -- the models with other marks and bodies, where the set's bodies are still equal
    module _ (mark mark' : Bool) (c c' : List Float) (size : length c ≡ length m.bodies) (size' : length c' ≡ length m'.bodies) where
      agree-bodies : ((i : ℕ) → set i ≡ true → solver_pose_at c i ≡ solver_pose_at c' i) → VelsSame store set c c'
          → Agree store set named (model m.params mark c m.words m.numbers) (model m'.params mark' c' m'.words m'.numbers)
      agree-bodies p v = agree_after store set m m' mark mark' c c' m.numbers m'.numbers size size' refl refl b.agree p v b.agree.contents

    -- rows of the set's joints
    rows-after : (mark : Bool) (c r r' : List Float) → RowsSame store set m m' r r' → RowsSame store set (model m.params mark c m.words m.numbers) m' r r'
    rows-after mark c r r' s j i = s j (of-set-before store set m mark c m.numbers refl j i)

    -- velocities alone have changed
    agree-vels : (c c' : List Float) → SamePoses laws m.bodies c → SamePoses laws m'.bodies c' → VelsSame store set c c' → Agree store set named (with_bodies m c) (with_bodies m' c')
    agree-vels c c' p p' v =
        agree-bodies m.built m'.built c c' p.size p'.size
        (λ i s. laws.solver_pose_at-same p i ∙ b.agree.poses i s ∙ sym (laws.solver_pose_at-same p' i)) v

    -- load
    load-next : Next set named m load (granted_of sys load m rows) (granted_of sys load m' rows')
    unfolding granted_of
    load-next = record {
      agree = agree-firsts laws set m m' _ _ false false b.agree;
      mark = refl;
      same_rows = λ e. absurd (false≢true e);
      answer = λ _. refl;
    }

    -- place, of a body of the set
    module _ (i : ℕ) (pose : Pose) (in_set : set i ≡ true) where
      not-world : i ≢ world
      not-world e = omega (arith, (sound-held laws m b.held).few, (b.agree.present i in_set).0)

      placed-poses : (i' : ℕ) → set i' ≡ true → solver_pose_at (put_pose m.bodies i pose) i' ≡ solver_pose_at (put_pose m'.bodies i pose) i'
      placed-poses i' s = by_cases (eqb i' i)
          (λ t.
          rw (eqb-true i' i t)
          (laws.solver_pose_at-put_pose m.bodies m'.bodies i pose not-world (body-there store m.bodies i (b.agree.present i in_set).0)
          (body-there store m'.bodies i (b.agree.present i in_set).1) (b.agree.poses i in_set)))
          (λ t.
          let n = eqb-false i' i t in
          laws.solver_pose_at-put_pose-other m.bodies i i' pose n ∙ b.agree.poses i' s ∙ sym (laws.solver_pose_at-put_pose-other m'.bodies i i' pose n))

      place-next : Next set named m (place i pose) (granted_of sys (place i pose) m rows) (granted_of sys (place i pose) m' rows')
      unfolding granted_of
      place-next =
          let c = put_pose m.bodies i pose in
          let c' = put_pose m'.bodies i pose in
          let size = laws.length-put_pose m.bodies i pose in
          let size' = laws.length-put_pose m'.bodies i pose in
          record {
            agree = agree-bodies m.built m'.built c c' size size' placed-poses
                (λ i' s. laws.vel_at-put_pose m.bodies i i' pose ∙ b.agree.velocities i' s ∙ sym (laws.vel_at-put_pose m'.bodies i i' pose));
            mark = b.mark;
            same_rows = λ e. rows-after m.built c rows rows' (b.same_rows e);
            answer = λ _. refl;
          }

    -- write-back
    back-next : m.built ≡ true → Next set named m write_back (granted_of sys write_back m rows) (granted_of sys write_back m' rows')
    unfolding granted_of
    back-next t = record {
      agree = write-back-agrees laws set m m' b.agree rows rows' (b.same_rows t);
      mark = b.mark;
      same_rows = λ e j i. b.same_rows e j (of-set-before store set m m.built m.bodies _ (back-keeps laws m.words m.numbers rows 0 _).size j i);
      answer = λ _. refl;
    }

    -- the work on rows and velocities
    module _ (room : Room store m rows) (room' : Room store m' rows') where
      ok : Sound store m
      ok = sound-held laws m b.held

      ok' : Sound store m'
      ok' = sound-held laws m' b.held'

      build-next : ((j : ℕ) (id : WritebackId) → Memᴰ id (joint_ids store m.words j) → named j id) → (warm : Option Float) (substep : ℕ) → refusal (rules_of sys (build warm substep) m rows) ≡ 0
          → Next set named m (build warm substep) (granted_of sys (build warm substep) m rows) (granted_of sys (build warm substep) m' rows')
      unfolding granted_of
      build-next gives warm substep z = record {
        agree = agree-bodies true true m.bodies m'.bodies refl refl b.agree.poses b.agree.velocities;
        mark = refl;
        same_rows = λ _. rows-after true m.bodies _ _
            (build-same laws set m m' b.agree ok ok' rows rows' room room' gives warm substep (λ r. b.same_rows (built-build m rows warm substep z r)));
        answer = λ _. refl;
      }

      warm-next : m.built ≡ true → Next set named m warm_start (granted_of sys warm_start m rows) (granted_of sys warm_start m' rows')
      unfolding granted_of
      warm-next t =
          let p = warm-keeps laws m.bodies m.words rows 0 (joint_count store m.words m.numbers) in
          let p' = warm-keeps laws m'.bodies m'.words rows' 0 (joint_count store m'.words m'.numbers) in
          record {
            agree = agree-vels _ _ p p' (warm-start-same laws set m m' b.agree ok ok' rows rows' room room' (b.same_rows t));
            mark = b.mark;
            same_rows = λ e. rows-after m.built _ rows rows' (b.same_rows e);
            answer = λ _. refl;
          }

      sweep-next : (n : ℕ) → m.built ≡ true → Next set named m (sweep n) (granted_of sys (sweep n) m rows) (granted_of sys (sweep n) m' rows')
      unfolding granted_of
      sweep-next n t =
          let p = (sweep-keeps laws m.bodies rows m.words (joint_count store m.words m.numbers) n).poses in
          let p' = (sweep-keeps laws m'.bodies rows' m'.words (joint_count store m'.words m'.numbers) n).poses in
          let s = sweep-same laws set m m' b.agree ok ok' rows rows' room room' n (b.same_rows t) in
          record {
            agree = agree-vels _ _ p p' s.0;
            mark = b.mark;
            same_rows = λ e. rows-after m.built _ _ _ s.1;
            answer = λ _. refl;
          }

      bias-next : Next set named m remove_bias (granted_of sys remove_bias m rows) (granted_of sys remove_bias m' rows')
      unfolding granted_of
      bias-next = record {
        agree = b.agree;
        mark = b.mark;
        same_rows = λ e. bias-same laws set m m' b.agree ok ok' rows rows' room room' (b.same_rows e);
        answer = λ _. refl;
      }

    -- a row read, and a velocity read: nothing changes
    unchanged : (c : Call sys) → ((run sys c m rows).after ≡ m) × ((run sys c m rows).rows ≡ rows) → ((run sys c m' rows').after ≡ m') × ((run sys c m' rows').rows ≡ rows')
        → (AboutSet sys set m (call_table sys c).asked → without_total (run sys c m rows).answer ≡ without_total (run sys c m' rows').answer) → Next set named m c (run sys c m rows) (run sys c m' rows')
    unchanged c l l' a = record {
      agree = rw (l.0, l'.0) b.agree;
      mark = rw (l.0, l'.0) b.mark;
      same_rows = rw (l.0, l.1, l'.0, l'.1) b.same_rows;
      answer = a;
    }

    read-rows-next : (j : ℕ) → Room store m rows × Room store m' rows' → Next set named m (read_rows j) (run sys (read_rows j) m rows) (run sys (read_rows j) m' rows')
    unfolding granted_of
    read-rows-next j room =
        unchanged (read_rows j) (left_alone (read_rows j) m rows refl refl) (left_alone (read_rows j) m' rows' refl refl)
        (λ i.
        (alike (read_rows j) (about-asked laws set m m' b.agree (joint j) tt i) (λ _. room) tt
        (λ z _. record {
          agree = b.agree;
          mark = b.mark;
          same_rows = b.same_rows;
          answer = λ _. rw (same-ids laws m m' j (b.agree.contents j i), b.same_rows (built-read m rows j z) j i);
        })).answer i)

    read-velocity-next : (i : ℕ) → Next set named m (read_velocity i) (run sys (read_velocity i) m rows) (run sys (read_velocity i) m' rows')
    unfolding granted_of
    read-velocity-next i =
        unchanged (read_velocity i) (left_alone (read_velocity i) m rows refl refl) (left_alone (read_velocity i) m' rows' refl refl)
        (λ s.
        (alike (read_velocity i) (about-asked laws set m m' b.agree (body i) tt s) (λ e. absurd (false≢true e)) tt
        (λ z _. record { agree = b.agree; mark = b.mark; same_rows = b.same_rows; answer = λ _. ap velocity_read (b.agree.velocities i s) })).answer s)

    -- place, of a body outside the set: granted or refused in each study by itself
    place-outside : (i : ℕ) (pose : Pose) → set i ≡ false → Next set named m (place i pose) (run sys (place i pose) m rows) (run sys (place i pose) m' rows')
    place-outside i pose f =
        let x = place-elsewhere set m rows i pose f in
        let x' = place-elsewhere set m' rows' i pose f in
        record {
          agree = rw (x.changed, x'.changed)
              (agree-bodies m.built m'.built x.bodies x'.bodies x.size x'.size
              (λ i s. x.poses i s ∙ b.agree.poses i s ∙ sym (x'.poses i s)) (λ i s. x.velocities i ∙ b.agree.velocities i s ∙ sym (x'.velocities i)));
          mark = rw (x.changed, x'.changed) b.mark;
          same_rows = rw (x.changed, x.rows_left, x'.changed, x'.rows_left) (λ e. rows-after m.built x.bodies rows rows' (b.same_rows e));
          answer = λ s. absurd (true≢false (sym s ∙ f));
        }

    -- new masks of a joint: granted in both, or refused in both, for a joint that only one of them has too
    masks-next : (j : ℕ) (ms : NewMasks) → ((call_table sys (set_masks j ms)).row_storage ≡ true → Room store m rows × Room store m' rows')
        → BothOrNeither (call_table sys (set_masks j ms)).alike (refusal (rules_of sys (set_masks j ms) m rows)) (refusal (rules_of sys (set_masks j ms) m' rows'))
        → Next set named m (set_masks j ms) (run sys (set_masks j ms) m rows) (run sys (set_masks j ms) m' rows')
    unfolding granted_of
    masks-next j ms r g =
        let k = refusal (rules_of sys (set_masks j ms) m rows) in
        by_cases (eqb k 0)
        (λ t.
        let z = eqb-true k 0 t in
        rw (← (run-granted (set_masks j ms) m rows z), ← (run-granted (set_masks j ms) m' rows' (g.0 z)))
        (record { agree = agree-masked laws set m m' j ms b.agree false false; mark = refl; same_rows = λ e. absurd (false≢true e); answer = λ _. refl }))
        (λ t.
        let n = eqb-false k 0 t in
        rw (← (run-refused (set_masks j ms) m rows refl n), ← (run-refused (set_masks j ms) m' rows' refl (λ z. n (g.1 z))))
        (record {
          agree = b.agree;
          mark = b.mark;
          same_rows = b.same_rows;
          answer = λ i. ap refused (same-refusal laws m m' b.held b.held' b.mark rows rows' (set_masks j ms) (about-asked laws set m m' b.agree (joint j) tt i) r g);
        }))

    -- a further call that is granted in both
    further-next : (f : Further) → refusal (rules_of sys (further f) m rows) ≡ 0 → refusal (rules_of sys (further f) m' rows') ≡ 0
        → Next set named m (further f) (granted_of sys (further f) m rows) (granted_of sys (further f) m' rows')
    unfolding granted_of
    further-next f z z' =
        let g = further-granted laws f m rows z in
        let g' = further-granted laws f m' rows' z' in
        record {
          agree = agree_after store set m m' m.built m'.built m.bodies m'.bodies _ _ refl refl (laws.further_same f m).size (laws.further_same f m').size b.agree b.agree.poses b.agree.velocities
              (λ j i. laws.further-named f m m' g g' j i.there (b.agree.joints j i).there (b.agree.contents j i));
          mark = b.mark;
          same_rows = λ e j i. b.same_rows e j (of-set-before store set m m.built m.bodies _ (laws.further_same f m).size j i);
          answer = λ _. refl;
        }

    -- a call keeps what two studies share, and its answers about the set are the same
    pub turn : (c : Call sys) → SameFurther sys m m' (call_table sys c).asked → ((call_table sys c).row_storage ≡ true → Room store m rows × Room store m' rows')
        → BothOrNeither (call_table sys c).alike (refusal (rules_of sys c m rows)) (refusal (rules_of sys c m' rows'))
        → (MakesRows (model_calls sys) c (run sys c m rows) → (j : ℕ) (id : WritebackId) → Memᴰ id (joint_ids store m.words j) → named j id)
        → Next set named m c (run sys c m rows) (run sys c m' rows')
    turn load t r k d = alike load tt r k (λ z _. load-next)
    turn (place i pose) t r k d =
        by_cases (set i) (λ s. alike (place i pose) (about-asked laws set m m' b.agree (body i) tt s) r k (λ z _. place-next i pose s)) (λ s. place-outside i pose s)
    turn (build warm substep) t r k d =
        alike (build warm substep) tt r k
        (λ z _. build-next (r refl).0 (r refl).1 (d (refl, told laws (build warm substep) m rows ∙ z)) warm substep z)
    turn warm_start t r k d = alike warm_start tt r k (λ z _. warm-next (r refl).0 (r refl).1 (built-warm m rows z))
    turn (sweep n) t r k d = alike (sweep n) tt r k (λ z _. sweep-next (r refl).0 (r refl).1 n (built-sweep m rows n z))
    turn remove_bias t r k d = alike remove_bias tt r k (λ z _. bias-next (r refl).0 (r refl).1)
    turn write_back t r k d = alike write_back tt r k (λ z _. back-next (built-back m rows z))
    turn (read_rows j) t r k d = read-rows-next j (r refl)
    turn (read_velocity i) t r k d = read-velocity-next i
    turn (set_masks j ms) t r k d = masks-next j ms r k
    turn (further f) t r k d = alike (further f) t r k (λ z z'. further-next f z z')

    -- a call that counts nothing
    module _ (j : ℕ) where
      counts-none : (c : Call sys) (m : Model) (rows : List Float) → count_of j (granted_of sys c m rows).answer ≡ 0 → count_of j (run sys c m rows).answer ≡ 0
      counts-none c m rows e = run-cases laws c m rows (λ o. count_of j o.answer ≡ 0) (λ _. e) refl

      both-none : (c : Call sys) → count_of j (granted_of sys c m rows).answer ≡ 0 → count_of j (granted_of sys c m' rows').answer ≡ 0
          → count_of j (run sys c m rows).answer ≡ count_of j (run sys c m' rows').answer
      both-none c e e' = counts-none c m rows e ∙ sym (counts-none c m' rows' e')

      -- what a call counts for a joint of the set's is the same
      pub counts-alike : (c : Call sys) → ((call_table sys c).row_storage ≡ true → Room store m rows × Room store m' rows') → OfSet store set m j → count_of j (run sys c m rows).answer ≡ count_of j (run sys c m' rows').answer
      unfolding granted_of
      counts-alike (sweep n) r t =
          let e = same-refusal laws m m' b.held b.held' b.mark rows rows' (sweep n) tt r tt in
          by_cases (eqb (refusal (rules_of sys (sweep n) m rows)) 0)
          (λ d.
          let z = eqb-true (refusal (rules_of sys (sweep n) m rows)) 0 d in
          rw (← (run-granted (sweep n) m rows z), ← (run-granted (sweep n) m' rows' (sym e ∙ z)))
          (counts_same laws set m m' b.agree (sound-held laws m b.held) (sound-held laws m' b.held') rows rows' (r refl).0 (r refl).1 j t n (b.same_rows (built-sweep m rows n z))))
          (λ d.
          let x = eqb-false (refusal (rules_of sys (sweep n) m rows)) 0 d in
          rw (← (run-refused (sweep n) m rows refl x), ← (run-refused (sweep n) m' rows' refl (λ z. x (e ∙ z)))))
      counts-alike load r t = both-none load refl refl
      counts-alike (place i pose) r t = both-none (place i pose) refl refl
      counts-alike (build warm substep) r t = both-none (build warm substep) refl refl
      counts-alike warm_start r t = both-none warm_start refl refl
      counts-alike remove_bias r t = both-none remove_bias refl refl
      counts-alike write_back r t = both-none write_back refl refl
      counts-alike (read_rows i) r t = both-none (read_rows i) refl refl
      counts-alike (read_velocity i) r t = both-none (read_velocity i) refl refl
      counts-alike (set_masks i ms) r t = both-none (set_masks i ms) refl refl
      counts-alike (further f) r t = both-none (further f) refl refl

    -- it is refused alike where both models have what it asks for, or neither has it
    pub refused-alike : (c : Call sys) → ((call_table sys c).row_storage ≡ true → Room store m rows × Room store m' rows')
        → BothOrNeither (call_table sys c).alike (refusal (rules_of sys c m rows)) (refusal (rules_of sys c m' rows')) → SameAsked sys m m' (call_table sys c).asked
        → refusal_of (run sys c m rows).answer ≡ refusal_of (run sys c m' rows').answer
    refused-alike c r k a =
        told laws c m rows ∙ same-refusal laws m m' b.held b.held' b.mark rows rows' c a r k ∙ sym (told laws c m' rows')

  -- a study starts not built, and rules 1 to 7 and 12 hold of it
  pub loaded-start : (s : Study (machine (model_calls sys))) → Loaded (model_calls sys) s → RulesHold laws s.model × (s.model.built ≡ false)
  unfolding rules_of granted_of
  loaded-start s l =
      let m = l.handed_over in
      let k = refusal (rules_of sys load m s.rows) in
      by_cases (eqb k 0)
      (λ t.
      let z = eqb-true k 0 t in
      let h = rules-hold laws m true (granted-front (model_rules sys m true) (storage_rule store m s.rows ∷ []) (granted-front (model_rules sys m true ++ (storage_rule store m s.rows ∷ [])) [] z)) in
      (rw l.by_load at (run_holds laws load m s.rows h), ap (λ (o : Outcome store). o.after.built) (sym l.by_load ∙ sym (run-granted load m s.rows z))))
      (λ t.
      let e : refused k ≡ granted = ap (λ (o : Outcome store). o.answer) (run-refused load m s.rows refl (eqb-false k 0 t) ∙ l.by_load) in
      let z : ◌≡◌ {A = ℕ} 0 1 = cc in
      absurd (omega arith))
