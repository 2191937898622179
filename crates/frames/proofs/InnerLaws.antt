-- Within a frame no call is refused: where rules 1 to 7 and 12 hold of the model with the substep for its timestep, the row storage has room, the warm coefficient is finite
-- and the rounds are few, each call of each substep is granted, and so is the write-back. So what a granted frame answers is a sweep's counts (`frame-answers`).
use Rattle.std.proofs.Common.{◌≡◌, ℕ, zero, suc, ◌+◌, ◌-◌, ◌≤◌, Bool, true, false, not, ◌⊎◌, List, [], ◌∷◌, sym, refl, ap, ◌∙◌, inl, inr, le-ltb, Option, Some, None}
use mathlib.Core.Bool.{false≢true}
use lib.Ieee.{Float, lt}
use Rattle.floats.specs.Operators.{bits}
use Rattle.floats.specs.Scalar.{is_finite}
use Rattle.multibody.specs.Rules.{refusal}
use Rattle.multibody.specs.Model.{Model}
use Rattle.multibody.specs.Counts.{row_capacity, total_rows, Room}
use Rattle.multibody.specs.Refusals.{most_rounds, finite_params, finite_warm, reads_rows, storage_rule}
use Rattle.multibody.specs.Calls.{Call, Answer, Outcome, call_table, granted_of, run, rules_of, first_rules, own_rules, handed_rules, refusal_of}
use Rattle.multibody.specs.Calls.Call.{build, warm_start, sweep, remove_bias, write_back}
use Rattle.multibody.specs.Calls.Change.{none}
use Rattle.multibody.specs.Calls.Answer.{granted}
use Rattle.multibody.specs.Studies.{without_total}
use Rattle.multibody.proofs.Tests.{by_cases}
use Rattle.multibody.proofs.RuleLaws.{both, no-rules, rule-holds, granted-append}
use Rattle.multibody.proofs.RefusalLaws.{RulesHold, first-numbered, rules-rest}
use Rattle.multibody.proofs.CallLaws.{run-granted, few-rounds, is-built, seeds}
use Rattle.multibody.proofs.Keeps.{BringsNone, run_holds, run-counts, run-total}
use Rattle.model.specs.Planar.{plane, planar}
use Rattle.model.proofs.PlanarLaws.{planar-laws}
use Rattle.frames.specs.Frames.{with_dt, substep_of, all_substeps, granted_frame, Moment, moment, leaves, moved_moment, Progress, before_move, move_of, after_move, substep, substeps, steps_of}
use Rattle.frames.proofs.FrameLaws.{once-stopped}
use Rattle.frames.proofs.MovedLaws.{moved-rules}

-- ---- a moment at which calls are granted

pub record Fine (s : Moment) : Type 0 where
  pub held : RulesHold planar-laws s.model
  pub room : Room plane s.model s.rows

-- and one after a build
pub record Built (s : Moment) : Type 0 where
  pub fine : Fine s
  pub built : s.model.built ≡ true

-- another timestep
pub dt-held : (h : Float) → is_finite h ≡ true → not (lt h (bits 0)) ≡ true → (q : Model) → RulesHold planar-laws q → RulesHold planar-laws (with_dt q h)
unfolding finite_params
dt-held h fine forward q held = record {
  bodies = held.bodies;
  joints = held.joints;
  masks = held.masks;
  present = held.present;
  apart = held.apart;
  finite-params = rw fine (both (is_finite q.params.dt) _ held.finite-params).1;
  finite-bodies = held.finite-bodies;
  finite-joints = held.finite-joints;
  contents = held.contents;
  dt = forward;
}

-- row storage still has room after a call that brings no masks
pub room-kept : (c : Call planar) → BringsNone (call_table planar c).masks → (s : Moment) → Room plane s.model s.rows → Room plane (leaves c s).model (leaves c s).rows
unfolding row_capacity
room-kept c t s h = rw (run-total planar-laws s.model s.rows c t, (run-counts planar-laws s.model s.rows c).size) h

-- rules 1 to 8 and 12
pub front-holds : (m : Model) (finite : Bool) (rows : List Float) → RulesHold planar-laws m → finite ≡ true → Room plane m rows → refusal (handed_rules planar true m none finite rows) ≡ 0
unfolding storage_rule
front-holds m finite rows h f room =
    rules-rest planar-laws m finite h f (storage_rule plane m rows ∷ [])
    ∙ rule-holds (storage_rule plane m rows) [] (rw (le-ltb (row_capacity plane rows) (total_rows plane m.words m.numbers) room)) ∙ no-rules

module _ (c : Call planar) (m : Model) (rows : List Float) (front : refusal (first_rules planar c m rows) ≡ 0) (own : refusal (own_rules planar c m) ≡ 0) where
  granted-by : refusal (rules_of planar c m rows) ≡ 0
  unfolding rules_of
  granted-by = granted-append (first_rules planar c m rows) (own_rules planar c m) (first-numbered planar-laws m c rows) front ∙ own

  runs : run planar c m rows ≡ granted_of planar c m rows
  runs = sym (run-granted c m rows granted-by)

then-fine : (c : Call planar) → BringsNone (call_table planar c).masks → (s : Moment) → Fine s → Fine (leaves c s)
then-fine c t s f = record { held = run_holds planar-laws c s.model s.rows f.held; room = room-kept c t s f.room }

-- ---- each call is granted

module _ (s : Moment) (f : Fine s) where
  front-fine : refusal (handed_rules planar true s.model none true s.rows) ≡ 0
  front-fine = front-holds s.model true s.rows f.held refl f.room

  pub build-granted : (warm : Option Float) (i : ℕ) → finite_warm warm ≡ true → (s.model.built ≡ true) ⊎ (reads_rows warm i ≡ false)
      → run planar (build warm i) s.model s.rows ≡ granted_of planar (build warm i) s.model s.rows
  build-granted warm i w b =
      runs (build warm i) s.model s.rows (front-holds s.model (finite_warm warm) s.rows f.held w f.room) (seeds [] s.model warm i b ∙ no-rules)

  module _ (built : s.model.built ≡ true) where
    pub warm-granted : run planar warm_start s.model s.rows ≡ granted_of planar warm_start s.model s.rows
    warm-granted = runs warm_start s.model s.rows front-fine (is-built [] s.model built ∙ no-rules)

    pub sweep-granted : (n : ℕ) → n ≤ most_rounds → run planar (sweep n) s.model s.rows ≡ granted_of planar (sweep n) s.model s.rows
    sweep-granted n g = runs (sweep n) s.model s.rows front-fine (few-rounds _ n g ∙ is-built [] s.model built ∙ no-rules)

    pub bias-granted : run planar remove_bias s.model s.rows ≡ granted_of planar remove_bias s.model s.rows
    bias-granted = runs remove_bias s.model s.rows front-fine (is-built [] s.model built ∙ no-rules)

    pub back-granted : run planar write_back s.model s.rows ≡ granted_of planar write_back s.model s.rows
    back-granted = runs write_back s.model s.rows front-fine (is-built [] s.model built ∙ no-rules)

-- in substep 0 nothing is read of the last rows
pub reads_none : (warm : Option Float) → reads_rows warm 0 ≡ false
unfolding reads_rows
reads_none None = refl
reads_none (Some c) = refl

-- ---- the substeps

-- a sweep's counts
pub record Counts (a : Answer plane) : Type 0 where
  pub granted : without_total a ≡ granted
  pub told : refusal_of a ≡ 0

abbrev pub Answered : Progress → Type 0
Answered p = Built p.left × Counts p.answer

module _ (warm : Option Float) (sweeps : ℕ) (w : finite_warm warm ≡ true) (few : sweeps ≤ most_rounds) where
  pub before-built : (i : ℕ) (s : Moment) → Fine s → (s.model.built ≡ true) ⊎ (reads_rows warm i ≡ false) → Built (before_move warm sweeps i s)
  unfolding before_move granted_of
  before-built i s f b =
      let s1 = leaves (build warm i) s in
      let f1 = then-fine (build warm i) tt s f in
      let b1 : s1.model.built ≡ true = ap (λ (o : Outcome plane). o.after.built) (build-granted s f warm i w b) in
      let s2 = leaves warm_start s1 in
      let f2 = then-fine warm_start tt s1 f1 in
      let b2 : s2.model.built ≡ true = ap (λ (o : Outcome plane). o.after.built) (warm-granted s1 f1 b1) ∙ b1 in
      record { fine = then-fine (sweep sweeps) tt s2 f2; built = ap (λ (o : Outcome plane). o.after.built) (sweep-granted s2 f2 b2 sweeps few) ∙ b2 }

  pub after-built : (s : Moment) → Built s → Answered (after_move sweeps s)
  unfolding after_move granted_of
  after-built s f =
      let s1 = leaves remove_bias s in
      let f1 = then-fine remove_bias tt s f.fine in
      let b1 : s1.model.built ≡ true = ap (λ (o : Outcome plane). o.after.built) (bias-granted s f.fine f.built) ∙ f.built in
      let g = sweep-granted s1 f1 b1 sweeps few in (
        record { fine = then-fine (sweep sweeps) tt s1 f1; built = ap (λ (o : Outcome plane). o.after.built) g ∙ b1 },
        record { granted = ap (λ (o : Outcome plane). without_total o.answer) g; told = ap (λ (o : Outcome plane). refusal_of o.answer) g },
      )

  pub move-built : (s : Moment) → Built s → (move_of s).finite ≡ true → Built (moved_moment s)
  move-built s f e = record { fine = record { held = moved-rules s.model s.rows f.fine.held e; room = f.fine.room }; built = f.built }

  pub substep-built : (i : ℕ) (s : Moment) → Fine s → (s.model.built ≡ true) ⊎ (reads_rows warm i ≡ false) → (substep warm sweeps i s).finite ≡ true → Answered (substep warm sweeps i s)
  unfolding substep
  substep-built i s f b e =
      let t = before_move warm sweeps i s in
      by_cases (move_of t).finite (λ g. rw g (after-built (moved_moment t) (move-built t (before-built i s f b) g))) (λ g. absurd (false≢true (rw g at e)))

  substeps-built : (n i : ℕ) (p : Progress) → p.finite ≡ true → Answered p → (substeps warm sweeps i n p).finite ≡ true → Answered (substeps warm sweeps i n p)
  unfolding substeps
  substeps-built zero i p e a f = a
  substeps-built (suc n) i p e a f =
      let q = substep warm sweeps i p.left in
      let g = rw e at f in
      rw e
      (by_cases q.finite
      (λ d. substeps-built n (i + 1) q d (substep-built i p.left a.0.fine (inl a.0.built) d) g)
      (λ d. absurd (false≢true (sym (once-stopped warm sweeps n (i + 1) q d) ∙ g))))

  pub steps-answered : (n : ℕ) (s : Moment) → Fine s → (steps_of warm sweeps n s).finite ≡ true → Answered (steps_of warm sweeps n s)
  unfolding steps_of
  steps-answered n s f e =
      let q = substep warm sweeps 0 s in
      by_cases q.finite
      (λ d. substeps-built (n - 1) 1 q d (substep-built 0 s f (inr (reads_none warm)) d) e)
      (λ d. absurd (false≢true (sym (once-stopped warm sweeps (n - 1) 1 q d) ∙ e)))

  -- a granted frame's answer is its last sweep's counts, and its write-back is granted
  module _ (n : ℕ) (m : Model) (rows : List Float) (f : Fine (moment (with_dt m (substep_of m.params.dt n)) rows)) (e : (all_substeps warm sweeps n m rows).finite ≡ true) where
    steps : Answered (all_substeps warm sweeps n m rows)
    unfolding all_substeps
    steps = steps-answered n (moment (with_dt m (substep_of m.params.dt n)) rows) f e

    pub frame-answers : Counts (granted_frame warm sweeps n m rows).answer
    unfolding granted_frame
    frame-answers = steps.1

    pub frame-writes : let s = (all_substeps warm sweeps n m rows).left in run planar write_back s.model s.rows ≡ granted_of planar write_back s.model s.rows
    frame-writes = let s = (all_substeps warm sweeps n m rows).left in back-granted s steps.0.fine steps.0.built
