-- What the table of calls says of each call: the numbers of the rules that it tries, in order (`checking-order`, `call-order`, and of new masks `masks-rules`), the mark that it leaves (`granted-mark`), which call makes rows (`build-makes`,
-- `refused-makes-none`), and what a row read answers (`read-own`). Assumes nothing.
use Rattle.std.specs.Prelude.{Option}
use Prim.Native.Nat.{ℕ}
use mathlib.Core.Path.{◌≡◌, refl, ap, ◌∙◌}
use mathlib.Core.Logic.{◌≢◌}
use mathlib.Core.Bool.{Bool, true, false}
use mathlib.Core.List.{List, [], ◌∷◌, ◌++◌, map, append_assoc}
use lib.Dec.{ltb}
use lib.Ieee.{Float}
use Rattle.multibody.specs.Rules.{Rule, rule, at_most}
use Rattle.multibody.specs.Model.{Model}
use Rattle.multibody.specs.System.{System}
use Rattle.multibody.specs.JointRows.{joint_ids}
use Rattle.multibody.specs.Counts.{joint_count, row_capacity, total_rows}
use Rattle.multibody.specs.Refusals.{finite_warm, model_rules, model_rules_with, storage_rule, sweep_rule, built_rule, seeds_rule, body_rule, joint_rule}
use Rattle.multibody.specs.Calls.{Call, Outcome, Change, fit_change, changed, call_table, handed_rules, rules_of, granted_of, run, refusal_of, rows_of}
use Rattle.multibody.specs.Calls.Call.{load, place, build, warm_start, sweep, remove_bias, write_back, read_rows, read_velocity, set_masks, further}
use Rattle.multibody.specs.Calls.Change.{none, given}
use Rattle.multibody.specs.Calls.Answer.{rows_read}
use Rattle.multibody.specs.Studies.{model_calls, MakesRows}

-- ---- order

abbrev numbers_of : List Rule → List ℕ
numbers_of rs = map (λ (r : Rule). r.number) rs

numbers-append : (qs rs : List Rule) → numbers_of (qs ++ rs) ≡ numbers_of qs ++ numbers_of rs
numbers-append [] rs = refl
numbers-append (q ∷ qs) rs = ap (λ l. q.number ∷ l) (numbers-append qs rs)

module _ (sys : System) (m : Model) where
  open sys use {store, mask_rules, content_rules, Further}

  -- document 01's order: the rules of a kind stand where 3 stands, and right after 6
  pub checking-order : (fit arguments : Bool) → let joints = joint_count store m.words m.numbers in
      numbers_of (model_rules_with sys m fit arguments) ≡ 1 ∷ 2 ∷ (numbers_of (mask_rules m.words joints fit) ++ (4 ∷ 5 ∷ 6 ∷ (numbers_of (content_rules m.words m.numbers joints) ++ (7 ∷ []))))
  unfolding model_rules_with
  checking-order fit arguments =
      let joints = joint_count store m.words m.numbers in
      ap (λ l. 1 ∷ 2 ∷ l)
      (numbers-append (mask_rules m.words joints fit) _
      ∙ ap (λ l. numbers_of (mask_rules m.words joints fit) ++ (4 ∷ 5 ∷ 6 ∷ l)) (numbers-append (content_rules m.words m.numbers joints) _))

  -- what each call tries after 7: 8 where it is handed row storage, 9, 10 and 11; a further call its own rules
  abbrev pub later_numbers : Call sys → List ℕ
  later_numbers load = 8 ∷ []
  later_numbers (place i pose) = 11 ∷ []
  later_numbers (build warm substep) = 8 ∷ 10 ∷ []
  later_numbers warm_start = 8 ∷ 10 ∷ []
  later_numbers (sweep n) = 8 ∷ 9 ∷ 10 ∷ []
  later_numbers remove_bias = 8 ∷ 10 ∷ []
  later_numbers write_back = 8 ∷ 10 ∷ []
  later_numbers (read_rows j) = 8 ∷ 10 ∷ 11 ∷ []
  later_numbers (read_velocity i) = 11 ∷ []
  later_numbers (set_masks j ms) = 8 ∷ 11 ∷ []
  later_numbers (further f) = numbers_of (sys.further_rules f m)

  module _ (rows : List Float) where
    stored-order : (change : Change sys) (finite : Bool) (rest : List Rule)
        → numbers_of (handed_rules sys true m change finite rows ++ rest) ≡ numbers_of (model_rules_with sys m (fit_change change) finite) ++ (8 ∷ numbers_of rest)
    unfolding storage_rule
    stored-order change finite rest =
        let first = model_rules_with sys m (fit_change change) finite in
        numbers-append (first ++ (storage_rule store (changed m change) rows ∷ [])) rest
        ∙ ap (λ l. l ++ numbers_of rest) (numbers-append first (storage_rule store (changed m change) rows ∷ []))
        ∙ append_assoc (numbers_of first) (8 ∷ []) (numbers_of rest)

    -- a build tries 8 and 10, a sweep 9 before 10, and a further call no 8
    pub build-order : (warm : Option Float) (substep : ℕ) → numbers_of (rules_of sys (build warm substep) m rows) ≡ numbers_of (model_rules sys m (finite_warm warm)) ++ later_numbers (build warm substep)
    unfolding rules_of seeds_rule
    build-order warm substep = stored-order none (finite_warm warm) _

    pub sweep-order : (n : ℕ) → numbers_of (rules_of sys (sweep n) m rows) ≡ numbers_of (model_rules sys m true) ++ later_numbers (sweep n)
    unfolding rules_of sweep_rule built_rule
    sweep-order n = stored-order none true _

    pub further-order : (f : Further) → numbers_of (rules_of sys (further f) m rows) ≡ numbers_of (model_rules sys m true) ++ later_numbers (further f)
    unfolding rules_of
    further-order f = numbers-append (model_rules sys m true) (sys.further_rules f m)

    pub call-order : (c : Call sys) → numbers_of (rules_of sys c m rows) ≡ numbers_of (model_rules_with sys m (fit_change (call_table sys c).masks) (call_table sys c).finite) ++ later_numbers c
    unfolding rules_of built_rule body_rule joint_rule
    call-order load = stored-order none true []
    call-order (place i pose) = numbers-append (model_rules sys m (sys.finite_pose pose)) _
    call-order (build warm substep) = build-order warm substep
    call-order warm_start = stored-order none true _
    call-order (sweep n) = sweep-order n
    call-order remove_bias = stored-order none true _
    call-order write_back = stored-order none true _
    call-order (read_rows j) = stored-order none true _
    call-order (read_velocity i) = numbers-append (model_rules sys m true) _
    call-order (set_masks j ms) = stored-order (given j ms) true _
    call-order (further f) = further-order f

    -- new masks: 3 asks whether they fit too, and 8 for the total with them; 11 comes last
    pub masks-rules : (j : ℕ) (ms : sys.NewMasks) → rules_of sys (set_masks j ms) m rows
        ≡ (model_rules_with sys m (sys.fit_masks ms) true ++ (rule 8 (at_most (row_capacity store rows) (total_rows store (sys.put_masks m.words j ms) m.numbers)) ∷ []))
        ++ (rule 11 (ltb j (joint_count store m.words m.numbers)) ∷ [])
    unfolding rules_of storage_rule joint_rule
    masks-rules j ms = refl

module _ (sys : System) where
  open sys use {store}

  -- ---- the mark

  -- a granted load clears the mark, and so do new masks, a granted build sets it, and no other call changes it
  abbrev pub mark_after : Call sys → Bool → Bool
  mark_after load mark = false
  mark_after (place i p) mark = mark
  mark_after (build warm substep) mark = true
  mark_after warm_start mark = mark
  mark_after (sweep n) mark = mark
  mark_after remove_bias mark = mark
  mark_after write_back mark = mark
  mark_after (read_rows j) mark = mark
  mark_after (read_velocity i) mark = mark
  mark_after (set_masks j ms) mark = false
  mark_after (further f) mark = mark

  pub granted-mark : (c : Call sys) (m : Model) (rows : List Float) → (granted_of sys c m rows).after.built ≡ mark_after c m.built
  unfolding granted_of
  granted-mark load m rows = refl
  granted-mark (place i p) m rows = refl
  granted-mark (build warm substep) m rows = refl
  granted-mark warm_start m rows = refl
  granted-mark (sweep n) m rows = refl
  granted-mark remove_bias m rows = refl
  granted-mark write_back m rows = refl
  granted-mark (read_rows j) m rows = refl
  granted-mark (read_velocity i) m rows = refl
  granted-mark (set_masks j ms) m rows = refl
  granted-mark (further f) m rows = refl

  -- ---- rows made, and rows read

  -- a granted build makes rows, and no refused call does
  pub build-makes : (warm : Option Float) (substep : ℕ) (m : Model) (rows : List Float) → refusal_of (run sys (build warm substep) m rows).answer ≡ 0
      → MakesRows (model_calls sys) (build warm substep) (run sys (build warm substep) m rows)
  build-makes warm substep m rows e = (refl, e)

  pub refused-makes-none : (c : Call sys) (o : Outcome store) → refusal_of o.answer ≢ 0 → MakesRows (model_calls sys) c o → ⊥
  refused-makes-none c o n h = n h.1

  -- the joint's own ids and rows
  pub read-own : (j : ℕ) (m : Model) (rows : List Float) → (granted_of sys (read_rows j) m rows).answer ≡ rows_read (joint_ids store m.words j) (rows_of store m.words rows j)
  unfolding granted_of
  read-own j m rows = refl
