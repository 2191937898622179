-- Demand 3 for lists that mix the model's calls with frames (`moving-two-studies`): two studies can be compared in them (`moving-comparable`). A frame that is granted in both keeps what they share; one that is refused in both is refused with the
-- same number and leaves all as it was. That each frame is granted in both or in neither is a premise.
use Rattle.std.proofs.Common.{◌≡◌, ℕ, Bool, true, false, eqb, ◌≢◌, List, [], ◌∷◌, sym, refl, ap, ◌∙◌, append_assoc, eqb-true, Option}
use borrow.Author.Tests.{eqb-false}
use lib.Ieee.{Float}
use Rattle.rows.specs.declared.joint_velocity_constraint.WritebackId.{WritebackId}
use Rattle.multibody.specs.Rules.{rule, refusal}
use Rattle.multibody.specs.Model.{Model}
use Rattle.multibody.specs.Counts.{body_count, Room}
use Rattle.multibody.specs.Refusals.{finite_warm, model_rules, storage_rule, sweep_rule}
use Rattle.multibody.specs.Calls.{handed_rules}
use Rattle.multibody.specs.Calls.Call.{write_back}
use Rattle.multibody.specs.Calls.Change.{none}
use Rattle.multibody.specs.Calls.Answer.{refused}
use Rattle.multibody.specs.Traces.{Study}
use Rattle.multibody.specs.Studies.{SameNumbers, model_calls, machine, Loaded, TwoStudies}
use Rattle.multibody.proofs.Tests.{by_cases}
use Rattle.multibody.proofs.RuleLaws.{rule-holds, rule-fails, no-rules, granted-append}
use Rattle.multibody.proofs.RefusalLaws.{RulesHold, storage-numbered, rules-arguments}
use Rattle.multibody.proofs.Keeps.{run-counts}
use Rattle.multibody.proofs.CallTurns.{Related}
use Rattle.multibody.proofs.TwoStudies.{Asks, Tells, Comparable, model-comparable, two-studies}
use Rattle.model.specs.Planar.{plane, planar}
use Rattle.model.proofs.PlanarLaws.{planar-laws}
use Rattle.frames.specs.Frames.{with_dt, moment, substep_of, substeps_rule, own_rules, finite_frame, all_substeps, frame_rules, granted_frame, run_frame}
use Rattle.frames.specs.Studies.{MovingCall, moving_calls, run_moving}
use Rattle.frames.specs.Studies.MovingCall.{plain, frame}
use Rattle.frames.proofs.BackLaws.{steps-kept}
use Rattle.frames.proofs.InnerLaws.{front-holds}
use Rattle.frames.proofs.FrameRefused.{frame-told, run-granted, run-refused, stays-finite, step, answers}
use Rattle.frames.proofs.FrameStudies.{frame-related}

-- ---- two refused frames are refused with the same number

-- the rules of a frame's own: all but the last read the arguments alone, and the last is a 6
own-alike : (sweeps n : ℕ) (f f' : Bool) → refusal (own_rules sweeps n f) ≢ 0 → refusal (own_rules sweeps n f') ≢ 0 → refusal (own_rules sweeps n f) ≡ refusal (own_rules sweeps n f')
own-alike sweeps n f f' r r' =
    by_cases (sweep_rule sweeps).holds
    (λ s.
    let e = rule-holds (sweep_rule sweeps) (substeps_rule n ∷ rule 6 f ∷ []) s in
    let e' = rule-holds (sweep_rule sweeps) (substeps_rule n ∷ rule 6 f' ∷ []) s in
    by_cases (substeps_rule n).holds
    (λ t.
    let d = e ∙ rule-holds (substeps_rule n) (rule 6 f ∷ []) t in
    let d' = e' ∙ rule-holds (substeps_rule n) (rule 6 f' ∷ []) t in
    d ∙ six f (λ z. r (d ∙ z)) ∙ sym (d' ∙ six f' (λ z. r' (d' ∙ z))))
    (λ t. e ∙ rule-fails (substeps_rule n) (rule 6 f ∷ []) t ∙ sym (e' ∙ rule-fails (substeps_rule n) (rule 6 f' ∷ []) t)))
    (λ s. rule-fails (sweep_rule sweeps) (substeps_rule n ∷ rule 6 f ∷ []) s ∙ sym (rule-fails (sweep_rule sweeps) (substeps_rule n ∷ rule 6 f' ∷ []) s))
  where
    six : (f : Bool) → refusal (rule 6 f ∷ []) ≢ 0 → refusal (rule 6 f ∷ []) ≡ 6
    six true z = absurd (z (rule-holds (rule 6 true) [] refl ∙ no-rules))
    six false z = rule-fails (rule 6 false) [] refl

module _ (warm : Option Float) (sweeps n : ℕ) where
  -- where the model's rules hold and there is room, a frame's own rules decide, but for its coefficient
  decided : (m : Model) (rows : List Float) → RulesHold planar-laws m → Room plane m rows → finite_warm warm ≡ true
      → refusal (frame_rules warm sweeps n m rows) ≡ refusal (own_rules sweeps n (finite_frame warm sweeps n m rows))
  unfolding frame_rules
  decided m rows held room w =
      granted-append (handed_rules planar true m none (finite_warm warm) rows) (own_rules sweeps n (finite_frame warm sweeps n m rows)) (storage-numbered planar-laws m m true (finite_warm warm) rows)
      (front-holds m (finite_warm warm) rows held w room)

  undecided : (m : Model) (rows : List Float) → RulesHold planar-laws m → finite_warm warm ≡ false → refusal (frame_rules warm sweeps n m rows) ≡ 6
  unfolding frame_rules
  undecided m rows held w =
      let own = own_rules sweeps n (finite_frame warm sweeps n m rows) in
      ap refusal (append_assoc (model_rules planar m (finite_warm warm)) (storage_rule plane m rows ∷ []) own) ∙ rules-arguments planar-laws m (finite_warm warm) held w (storage_rule plane m rows ∷ own)

  module _ (m m' : Model) (rows rows' : List Float) (held : RulesHold planar-laws m) (held' : RulesHold planar-laws m') (room : Room plane m rows) (room' : Room plane m' rows') where
    pub refused-same : refusal (frame_rules warm sweeps n m rows) ≢ 0 → refusal (frame_rules warm sweeps n m' rows') ≢ 0 → refusal (frame_rules warm sweeps n m rows) ≡ refusal (frame_rules warm sweeps n m' rows')
    refused-same r r' =
        by_cases (finite_warm warm)
        (λ w.
        let d = decided m rows held room w in
        let d' = decided m' rows' held' room' w in
        d ∙ own-alike sweeps n _ _ (λ z. r (d ∙ z)) (λ z. r' (d' ∙ z)) ∙ sym d')
        (λ w. undecided m rows held w ∙ sym (undecided m' rows' held' w))

-- ---- one frame of two studies

module _ (set : ℕ → Bool) (named : ℕ → WritebackId → Type 0) (warm : Option Float) (sweeps n : ℕ) (m m' : Model) (rows rows' : List Float) (b : Related planar-laws set named m m' rows rows') where
  abbrev call : MovingCall
  call = frame warm sweeps n

  abbrev k : ℕ
  k = refusal (frame_rules warm sweeps n m rows)

  abbrev k' : ℕ
  k' = refusal (frame_rules warm sweeps n m' rows')

  module _ (a : Asks planar-laws moving_calls set named call m m' rows rows' (run_moving call m rows) (run_moving call m' rows')) where
    same_number : k ≡ k'
    same_number =
        let t = frame-told warm sweeps n m rows in
        let t' = frame-told warm sweeps n m' rows' in
        let room = a.room refl in
        by_cases (eqb k 0)
        (λ z. let e = eqb-true k 0 z in e ∙ sym (sym t' ∙ a.alike.0 (t ∙ e)))
        (λ z.
        let no = eqb-false k 0 z in
        refused-same warm sweeps n m m' rows rows' b.held b.held' room.0 room.1 no (λ e'. no (sym t ∙ a.alike.1 (t' ∙ e'))))

    frame-tells : Tells planar-laws moving_calls set named call m m' (run_moving call m rows) (run_moving call m' rows')
    frame-tells =
        let t = frame-told warm sweeps n m rows in
        let t' = frame-told warm sweeps n m' rows' in
        let room = a.room refl in
        by_cases (eqb k 0)
        (λ z.
        let e = eqb-true k 0 z in
        let e' = sym same_number ∙ e in
        let x = frame-related set m m' rows rows' b room.0 room.1 (a.gives (refl, t ∙ e)) warm sweeps n (step warm sweeps n m rows e).0 (step warm sweeps n m rows e).1
        (stays-finite warm sweeps n m rows e).1 (stays-finite warm sweeps n m' rows' e').1 in
        record {
          refusals = λ _. t ∙ same_number ∙ sym t';
          answer = λ _. rw (← run-granted warm sweeps n m rows e, ← run-granted warm sweeps n m' rows' e') ((answers warm sweeps n m rows e).granted ∙ sym (answers warm sweeps n m' rows' e').granted);
          counts = rw (← run-granted warm sweeps n m rows e, ← run-granted warm sweeps n m' rows' e') x.1;
          related = rw (← run-granted warm sweeps n m rows e, ← run-granted warm sweeps n m' rows' e') x.0;
        })
        (λ z.
        let no = eqb-false k 0 z in
        let no' : k' ≢ 0 = λ e. no (same_number ∙ e) in
        rw (← run-refused warm sweeps n m rows refl no, ← run-refused warm sweeps n m' rows' refl no')
        (record { refusals = λ _. same_number; answer = λ _. ap refused same_number; counts = λ j o. refl; related = b }))

-- ---- no frame changes a number of bodies or joints

frame-numbers : (warm : Option Float) (sweeps n : ℕ) (m : Model) (rows : List Float) → SameNumbers plane (run_frame warm sweeps n m rows).after m
unfolding granted_frame all_substeps
frame-numbers warm sweeps n m rows =
    let z = refusal (frame_rules warm sweeps n m rows) in
    by_cases (eqb z 0)
    (λ t.
    let s = moment (with_dt m (substep_of m.params.dt n)) rows in
    let kept = steps-kept m.words m.numbers rows (body_count plane m.bodies) warm sweeps n s (record { words-kept = refl; numbers-kept = refl; past = refl; count = refl }) in
    let left = (all_substeps warm sweeps n m rows).left in
    let c = run-counts planar-laws left.model left.rows write_back in
    rw (← run-granted warm sweeps n m rows (eqb-true z 0 t))
    (record { bodies = c.bodies ∙ kept.count; joints = rw (kept.words-kept, kept.numbers-kept) at c.joints }))
    (λ t. rw (← run-refused warm sweeps n m rows refl (eqb-false z 0 t)) (record { bodies = refl; joints = refl }))

-- ---- all lists

-- a study of these calls is a study of the model's
abbrev as-model : Study (machine moving_calls) → Study (machine (model_calls planar))
as-model s = record { model = s.model; rows = s.rows }

pub moving-comparable : Comparable planar-laws moving_calls
moving-comparable = record { turn = turn; start = start; numbers = numbers }
  where
    turn : (set : ℕ → Bool) (named : ℕ → WritebackId → Type 0) (c : MovingCall) (m m' : Model) (rows rows' : List Float) → Related planar-laws set named m m' rows rows'
        → Asks planar-laws moving_calls set named c m m' rows rows' (run_moving c m rows) (run_moving c m' rows') → Tells planar-laws moving_calls set named c m m' (run_moving c m rows) (run_moving c m' rows')
    turn set named (plain c) m m' rows rows' b a =
        let t = (model-comparable planar-laws).turn set named c m m' rows rows' b (record { room = a.room; further = a.further; alike = a.alike; gives = a.gives }) in
        record { refusals = t.refusals; answer = t.answer; counts = t.counts; related = t.related }
    turn set named (frame warm sweeps n) m m' rows rows' b a = frame-tells set named warm sweeps n m m' rows rows' b a

    start : (s : Study (machine moving_calls)) → Loaded moving_calls s → RulesHold planar-laws s.model × (s.model.built ≡ false)
    start s l = (model-comparable planar-laws).start (as-model s) (record { handed_over = l.handed_over; by_load = l.by_load })

    numbers : (c : MovingCall) (m : Model) (rows : List Float) → SameNumbers plane (run_moving c m rows).after m
    numbers (plain c) m rows = (model-comparable planar-laws).numbers c m rows
    numbers (frame warm sweeps n) m rows = frame-numbers warm sweeps n m rows

pub moving-two-studies : TwoStudies moving_calls
moving-two-studies = two-studies planar-laws moving_calls moving-comparable
