-- Demand 1 for frames: a frame is refused with k exactly if the rule of number k fails and every rule before it holds (`refused-exactly`, `exactly-refused`), and then it leaves model and row storage as they were (`refused-leaves`); its
-- answer tells that number (`frame-told`). It is granted exactly if every rule holds (`granted-exactly`, `exactly-granted`). The order of the rules is 1 to 6, 12, 7, 8, 9, 16, and 6 of the moves (`frame-order`).
use Rattle.std.proofs.Common.{◌≡◌, ℕ, ◌≤◌, true, not, eqb, ◌≢◌, List, [], ◌∷◌, map, sym, refl, ap, ◌∙◌, arith, ne_eqb, eqb-true, Option}
use borrow.Author.Tests.{eqb-false}
use lib.Ieee.{Float, lt}
use Rattle.floats.specs.Operators.{bits}
use Rattle.floats.specs.Scalar.{is_finite}
use Rattle.multibody.specs.Rules.{Rule, refusal}
use Rattle.multibody.specs.Model.{Model}
use Rattle.multibody.specs.Counts.{Room}
use Rattle.multibody.specs.Refusals.{most_rounds, finite_warm, model_rules, model_rules_with, storage_rule, sweep_rule}
use Rattle.multibody.specs.Calls.{Outcome, outcome, refusal_of, handed_rules}
use Rattle.multibody.specs.Calls.Call.{build}
use Rattle.multibody.specs.Calls.Change.{none}
use Rattle.multibody.specs.Calls.Answer.{refused}
use Rattle.multibody.specs.Answers.{refusal_number}
use Rattle.multibody.specs.declared.refusal.Refusal.{Refusal}
use Rattle.multibody.proofs.AnswerLaws.{not-granted}
use Rattle.multibody.proofs.Tests.{by_cases}
use Rattle.multibody.proofs.RuleLaws.{both, Numbered, Hold, First, numbered-append, all_hold, hold-granted, refused-first, first-refused, hold-front, hold-last, at-most}
use Rattle.multibody.proofs.RefusalLaws.{first-numbered, rules-hold, arguments-finite, room_of}
use Rattle.model.specs.Planar.{plane, planar}
use Rattle.model.proofs.PlanarLaws.{planar-laws}
use Rattle.frames.specs.Frames.{with_dt, moment, substep_of, is_step, substeps_rule, own_rules, finite_frame, all_substeps, frame_rules, granted_frame, run_frame}
use Rattle.frames.proofs.InnerLaws.{Fine, Counts, dt-held, frame-answers}

module _ (warm : Option Float) (sweeps n : ℕ) (m : Model) (rows : List Float) where
  abbrev rules : List Rule
  rules = frame_rules warm sweeps n m rows

  abbrev front : List Rule
  front = handed_rules planar true m none (finite_warm warm) rows

  pub frame-order : map (λ (r : Rule). r.number) (frame_rules warm sweeps n m rows) ≡ 1 ∷ 2 ∷ 3 ∷ 4 ∷ 5 ∷ 6 ∷ 12 ∷ 7 ∷ 8 ∷ 9 ∷ 16 ∷ 6 ∷ []
  unfolding frame_rules model_rules_with storage_rule sweep_rule substeps_rule
  frame-order = refl

  pub rules-numbered : Numbered (frame_rules warm sweeps n m rows)
  unfolding frame_rules substeps_rule sweep_rule
  rules-numbered = numbered-append front (own_rules sweeps n _) (first-numbered planar-laws m (build warm 0) rows) (omega arith)

  -- ---- what a granted frame's rules say

  module _ (e : refusal (frame_rules warm sweeps n m rows) ≡ 0) where
    held : Hold (frame_rules warm sweeps n m rows)
    held = all_hold (frame_rules warm sweeps n m rows) rules-numbered e

    own_held : Hold (own_rules sweeps n (finite_frame warm sweeps n m rows))
    unfolding frame_rules
    own_held = hold-last front (own_rules sweeps n (finite_frame warm sweeps n m rows)) held

    front-held : Hold front
    unfolding frame_rules
    front-held = hold-front front (own_rules sweeps n (finite_frame warm sweeps n m rows)) held

    model-held : refusal (model_rules planar m (finite_warm warm)) ≡ 0
    model-held = hold-granted (model_rules planar m (finite_warm warm)) (hold-front (model_rules planar m (finite_warm warm)) (storage_rule plane m rows ∷ []) front-held)

    pub few-rounds : sweeps ≤ most_rounds
    unfolding sweep_rule
    few-rounds = at-most most_rounds sweeps own_held.0

    pub warm-finite : finite_warm warm ≡ true
    warm-finite = arguments-finite planar-laws m (finite_warm warm) model-held

    pub stays-finite : (is_step (substep_of m.params.dt n) ≡ true) × ((all_substeps warm sweeps n m rows).finite ≡ true)
    stays-finite = both (is_step (substep_of m.params.dt n)) (all_substeps warm sweeps n m rows).finite own_held.1.1.0

    pub step : (is_finite (substep_of m.params.dt n) ≡ true) × (not (lt (substep_of m.params.dt n) (bits 0)) ≡ true)
    unfolding is_step
    step = both (is_finite (substep_of m.params.dt n)) (not (lt (substep_of m.params.dt n) (bits 0))) stays-finite.0

    pub room : Room plane m rows
    room = room_of planar-laws m rows (hold-granted (storage_rule plane m rows ∷ []) (hold-last (model_rules planar m (finite_warm warm)) (storage_rule plane m rows ∷ []) front-held))

    pub starts-fine : Fine (moment (with_dt m (substep_of m.params.dt n)) rows)
    starts-fine = record { held = dt-held (substep_of m.params.dt n) step.0 step.1 m (rules-hold planar-laws m (finite_warm warm) model-held); room = room }

    -- no call within it is refused, so its answer is a sweep's counts
    pub answers : Counts (granted_frame warm sweeps n m rows).answer
    answers = frame-answers warm sweeps warm-finite few-rounds n m rows starts-fine stays-finite.1

  -- ---- refused and granted

  pub run-granted : refusal (frame_rules warm sweeps n m rows) ≡ 0 → granted_frame warm sweeps n m rows ≡ run_frame warm sweeps n m rows
  unfolding run_frame
  run-granted e = rw e

  pub run-refused : {k : ℕ} → k ≡ refusal (frame_rules warm sweeps n m rows) → k ≢ 0 → outcome (refused k) m rows ≡ run_frame warm sweeps n m rows
  unfolding run_frame
  run-refused {k} e z = rw (← e, ne_eqb k 0 z)

  -- the answer tells the number of the first rule that fails
  pub frame-told : refusal_of (run_frame warm sweeps n m rows).answer ≡ refusal (frame_rules warm sweeps n m rows)
  frame-told =
      let k = refusal rules in
      by_cases (eqb k 0)
      (λ t.
      let e = eqb-true k 0 t in
      ap (λ (o : Outcome plane). refusal_of o.answer) (sym (run-granted e)) ∙ (answers e).told ∙ sym e)
      (λ t. ap (λ (o : Outcome plane). refusal_of o.answer) (sym (run-refused refl (eqb-false k 0 t))))

  number_of : (k : ℕ) → (run_frame warm sweeps n m rows).answer ≡ refused k → (refusal (frame_rules warm sweeps n m rows) ≡ k)
  number_of k a = sym frame-told ∙ ap refusal_of a

  pub refused-exactly : (k : ℕ) → k ≢ 0 → (run_frame warm sweeps n m rows).answer ≡ refused k → First k (frame_rules warm sweeps n m rows)
  refused-exactly k z a = refused-first k rules (number_of k a) z

  pub exactly-refused : (k : ℕ) → k ≢ 0 → First k (frame_rules warm sweeps n m rows) → run_frame warm sweeps n m rows ≡ outcome (refused k) m rows
  exactly-refused k z f = sym (run-refused (sym (first-refused k rules f)) z)

  pub refused-leaves : (k : ℕ) → k ≢ 0 → (run_frame warm sweeps n m rows).answer ≡ refused k → run_frame warm sweeps n m rows ≡ outcome (refused k) m rows
  refused-leaves k z a = sym (run-refused (sym (number_of k a)) z)

  pub granted-exactly : refusal_of (run_frame warm sweeps n m rows).answer ≡ 0 → Hold (frame_rules warm sweeps n m rows)
  granted-exactly a = all_hold rules rules-numbered (sym frame-told ∙ a)

  pub exactly-granted : Hold (frame_rules warm sweeps n m rows) → run_frame warm sweeps n m rows ≡ granted_frame warm sweeps n m rows
  exactly-granted h = sym (run-granted (hold-granted rules h))

  -- no frame whose rules hold is refused by its last sweep
  pub no-refusal : refusal (frame_rules warm sweeps n m rows) ≡ 0 → (e : Refusal) {t : Model} {r : List Float} → outcome (refused (refusal_number e)) t r ≡ granted_frame warm sweeps n m rows → ⊥
  no-refusal z e o = not-granted e (ap (λ (o : Outcome plane). refusal_of o.answer) o ∙ (answers z).told)
