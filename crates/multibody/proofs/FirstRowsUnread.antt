-- No call reads a stored first row (document 02, R-10). Two models that differ in first rows alone are refused alike (`refused-same`), and every call answers them alike and leaves them, and the row storage, equal but for first rows
-- (`unread`). What "differ in first rows alone" says is a kind's own: a relation of words that no definition tells apart, and that new masks and stored first rows keep (`Unread`).
use Rattle.std.specs.Prelude.{Option}
use Prim.Native.Nat.{ℕ, zero, suc, ◌+◌}
use mathlib.Core.Path.{◌≡◌, refl, sym, ap, ◌∙◌}
use mathlib.Core.Bool.{Bool, true, false, false≢true}
use mathlib.Core.List.{List, [], ◌∷◌, ◌++◌, map, append_assoc}
use mathlib.Core.Logic.{◌≢◌}
use native.Mathlib.Omega.{arith}
use borrow.Author.Tests.{eqb-true, eqb-false}
use lib.Dec.{eqb}
use lib.Ieee.{Float}
use Rattle.multibody.specs.Rules.{Rule, refusal, all}
use Rattle.multibody.specs.Model.{Model, with_words}
use Rattle.multibody.specs.Store.{Store}
use Rattle.multibody.specs.System.{System}
use Rattle.multibody.specs.JointRows.{State, state, row_count, built_rows, build_joint, write_back_joint}
use Rattle.multibody.specs.Counts.{joint_count, total_rows, store_firsts}
use Rattle.multibody.specs.Refusals.{bodies_present, bodies_apart, finite_joint, model_rules_with, storage_rule, built_rule, seeds_rule, body_rule, joint_rule}
use Rattle.multibody.specs.Calls.{Call, Outcome, Asked, Own, Change, outcome, changed, own_rule, call_table, asked_rules, handed_rules, own_rules, rules_of, granted_of, run, each_joint, rounds, build_one, warmstart_one, sweep_one, sweep_round, remove_bias_one, write_back_one, rows_of, count_one, count_round, sweep_counts}
use Rattle.multibody.specs.Calls.Call.{load, place, build, warm_start, sweep, remove_bias, write_back, read_rows, read_velocity, set_masks, further}
use Rattle.multibody.specs.Calls.Change.{none, given}
use Rattle.multibody.specs.Calls.Own.{few_rounds, after_build, rows_to_read}
use Rattle.multibody.specs.Calls.Asked.{nothing, body, joint, named}
use Rattle.multibody.specs.Calls.Answer.{total, swept, refused}
use Rattle.multibody.proofs.Tests.{by_cases}
use Rattle.multibody.proofs.RuleLaws.{all-cong, refused-append}
use Rattle.multibody.proofs.Laws.{Laws}
use Rattle.multibody.proofs.RefusalLaws.{rules-fit}
use Rattle.multibody.proofs.CallLaws.{run-granted, run-refused}
use Rattle.multibody.proofs.SameRefusals.{append-same}
use Rattle.multibody.proofs.Rewording.{SameWords, same_count, ids-kept, rows-kept}

-- ---- works that do the same to every joint

module _ {A : Type 0} where
  each_same : (f g : ℕ → A → A) → ((j : ℕ) (s : A) → f j s ≡ g j s) → (n j : ℕ) (s : A) → each_joint f j n s ≡ each_joint g j n s
  unfolding each_joint
  each_same f g e zero j s = refl
  each_same f g e (suc n) j s = rw (e j s) (each_same f g e n (j + 1) (g j s))

  rounds-same : (f g : A → A) → ((s : A) → f s ≡ g s) → (n : ℕ) (s : A) → rounds f n s ≡ rounds g n s
  unfolding rounds
  rounds-same f g e zero s = refl
  rounds-same f g e (suc n) s = rw (e s) (rounds-same f g e n (g s))

-- ---- words that differ in first rows at most

module _ {sys : System} (laws : Laws sys) {w w' : List ℕ} (s : SameWords laws w w') where
  open sys use {store}

  count_kept : (j : ℕ) → row_count store w' j ≡ row_count store w j
  unfolding row_count
  count_kept j = rw (ids-kept laws s j)

  warm-kept : (rows : List Float) (j : ℕ) (b : List Float) → warmstart_one store w' rows j b ≡ warmstart_one store w rows j b
  unfolding warmstart_one
  warm-kept rows j b = rw (rows-kept laws s j, count_kept j, s.reworded.body1 j, s.reworded.body2 j)

  sweep-kept : (j : ℕ) (st : State) → sweep_one store w' j st ≡ sweep_one store w j st
  unfolding sweep_one
  sweep-kept j st = rw (rows-kept laws s j, count_kept j, s.reworded.body1 j, s.reworded.body2 j)

  bias-kept : (j : ℕ) (rows : List Float) → remove_bias_one store w' j rows ≡ remove_bias_one store w j rows
  unfolding remove_bias_one
  bias-kept j rows = rw (rows-kept laws s j, count_kept j)

  back-kept : (rows : List Float) (j : ℕ) (n : List Float) → write_back_one store rows w' j n ≡ write_back_one store rows w j n
  unfolding write_back_one write_back_joint
  back-kept rows j n = rw (rows-kept laws s j, ids-kept laws s j)

  of-kept : (rows : List Float) (j : ℕ) → rows_of store w' rows j ≡ rows_of store w rows j
  unfolding rows_of
  of-kept rows j = rw (rows-kept laws s j, count_kept j)

  -- a round of a sweep, and its counts
  round-kept : (joints : ℕ) (st : State) → sweep_round store w' joints st ≡ sweep_round store w joints st
  unfolding sweep_round
  round-kept joints st = each_same (sweep_one store w') (sweep_one store w) sweep-kept joints 0 st

  motors-kept : (j : ℕ) (st : State) → count_one store w' j st ≡ count_one store w j st
  unfolding count_one
  motors-kept j st = rw (ids-kept laws s j, rows-kept laws s j, s.reworded.body1 j, s.reworded.body2 j)

  motors-round : (n j : ℕ) (st : State) → count_round store w' j n st ≡ count_round store w j n st
  unfolding count_round
  motors-round zero j st = refl
  motors-round (suc n) j st = rw (motors-kept j st, sweep-kept j st, motors-round n (j + 1) (sweep_one store w j st))

  counts-kept : (joints n : ℕ) (st : State) → sweep_counts store w' joints n st ≡ sweep_counts store w joints n st
  unfolding sweep_counts
  counts-kept joints zero st = refl
  counts-kept joints (suc n) st = rw (rounds-same (sweep_round store w' joints) (sweep_round store w joints) (round-kept joints) n st) (motors-round joints 0 _)

-- ---- what a kind shows of its words

pub record Unread {sys : System} (laws : Laws sys) : Type 1 where
  pub Same : List ℕ → List ℕ → Type 0
  pub words : {a b : List ℕ} → Same a b → SameWords laws a b
  pub masks : {a b : List ℕ} (j : ℕ) (ms : sys.NewMasks) → Same a b → Same (sys.put_masks a j ms) (sys.put_masks b j ms)
  pub firsts : {a b : List ℕ} (n : ℕ) → Same a b → Same (store_firsts sys.store 0 n a) (store_firsts sys.store 0 n b)
  pub rules : (f : sys.Further) (m : Model) (mark : Bool) {w : List ℕ} → Same m.words w → sys.further_rules f (with_words m mark w) ≡ sys.further_rules f m
  pub numbers : (f : sys.Further) (m : Model) (mark : Bool) {w : List ℕ} → Same m.words w → sys.further_numbers f (with_words m mark w) ≡ sys.further_numbers f m

-- two outcomes that differ in first rows alone
pub record SameButFirsts {store : Store} (Same : List ℕ → List ℕ → Type 0) (o o' : Outcome store) : Type 0 where
  pub answer : o'.answer ≡ o.answer
  pub params : o'.after.params ≡ o.after.params
  pub mark : o'.after.built ≡ o.after.built
  pub bodies : o'.after.bodies ≡ o.after.bodies
  pub words : Same o.after.words o'.after.words
  pub numbers : o'.after.numbers ≡ o.after.numbers
  pub rows : o'.rows ≡ o.rows

module _ {sys : System} {laws : Laws sys} (u : Unread laws) (m : Model) {w : List ℕ} (same : u.Same m.words w) (rows : List Float) where
  open sys use {store, mask_rules, content_rules}

  -- the other model
  abbrev other : Model
  other = with_words m m.built w

  abbrev joints : ℕ
  joints = joint_count store m.words m.numbers

  s : SameWords laws m.words w
  s = u.words same

  joints-same : joint_count store w m.numbers ≡ joints
  joints-same = same_count laws s.reworded m.numbers

  -- ---- the rules

  -- rules 1 to 7, of a call whose own masks fit
  model-same : (arguments : Bool) → model_rules_with sys other true arguments ≡ model_rules_with sys m true arguments
  unfolding model_rules_with bodies_present bodies_apart finite_joint
  model-same arguments =
      let r = s.reworded in
      let present : all 0 joints (bodies_present store m.bodies w) ≡ all 0 joints (bodies_present store m.bodies m.words) = all-cong _ _ 0 joints (λ j _ _. rw (r.body1 j, r.body2 j)) in
      let apart : all 0 joints (bodies_apart store w) ≡ all 0 joints (bodies_apart store m.words) = all-cong _ _ 0 joints (λ j _ _. rw (r.body1 j, r.body2 j)) in
      let finite : all 0 joints (finite_joint sys w m.numbers) ≡ all 0 joints (finite_joint sys m.words m.numbers) = all-cong _ _ 0 joints (λ j _ _. rw (r.asks j)) in
      rw (joints-same, s.mask-rules joints, present, apart, finite, r.contents m.numbers joints)

  -- and of one whose masks do not, which is refused with 3 at the latest
  unfit-same : (arguments : Bool) → refusal (model_rules_with sys other false arguments) ≡ refusal (model_rules_with sys m false arguments)
  unfolding model_rules_with
  unfit-same arguments =
      let three : (words : List ℕ) (rest : List Rule) → refusal (mask_rules words joints false ++ rest) ≡ 3 =
      λ words rest. refused-append (mask_rules words joints false) rest (λ z. omega (arith, sym (laws.own-masks words joints) ∙ z)) ∙ laws.own-masks words joints in
      rw joints-same (append-same (_ ∷ _ ∷ []) _ _ (three w _ ∙ sym (three m.words _)))

  total-same : total_rows store w m.numbers ≡ total_rows store m.words m.numbers
  total-same = rw (joints-same, rows-kept laws s joints)

  -- rule 8, of the model as it is or with new masks
  storage-same : (change : Change sys) → storage_rule store (changed {sys = sys} other change) rows ≡ storage_rule store (changed {sys = sys} m change) rows
  unfolding storage_rule
  storage-same none = rw total-same
  storage-same (given j ms) =
      let t = u.words (u.masks j ms same) in
      let e = same_count laws t.reworded m.numbers in
      rw (e, rows-kept laws t (joint_count store (sys.put_masks m.words j ms) m.numbers))

  own_same : (o : Own) → own_rule other o ≡ own_rule m o
  unfolding built_rule seeds_rule
  own_same (few_rounds n) = refl
  own_same after_build = refl
  own_same (rows_to_read warm substep) = refl

  owns-same : (os : List Own) → map (own_rule other) os ≡ map (own_rule m) os
  owns-same [] = refl
  owns-same (o ∷ os) = rw (own_same o, owns-same os)

  asked-same : (a : Asked sys) → asked_rules sys other a ≡ asked_rules sys m a
  unfolding body_rule joint_rule
  asked-same nothing = refl
  asked-same (body i) = refl
  asked-same (joint j) = rw joints-same
  asked-same (named f) = u.rules f m m.built same

  rest-same : (c : Call sys) → own_rules sys c other ≡ own_rules sys c m
  rest-same c = rw (owns-same (call_table sys c).own, asked-same (call_table sys c).asked)

  -- what follows masks that do not fit is never reached
  unfit-append : (finite : Bool) (rest rest' : List Rule) → refusal (model_rules_with sys other false finite ++ rest) ≡ refusal (model_rules_with sys m false finite ++ rest')
  unfit-append finite rest rest' =
      let told : (n : Model) → refusal (model_rules_with sys n false finite) ≢ 0 = λ n z. false≢true (rules-fit laws n finite false z) in
      refused-append (model_rules_with sys other false finite) rest (told other) ∙ unfit-same finite ∙ sym (refused-append (model_rules_with sys m false finite) rest' (told m))

  -- rules 1 to 8 before any others
  handed-same : (b : Bool) (change : Change sys) (finite : Bool) (rest : List Rule)
      → refusal (handed_rules sys b other change finite rows ++ rest) ≡ refusal (handed_rules sys b m change finite rows ++ rest)
  handed-same true none finite rest = rw (model-same finite, storage-same none)
  handed-same false none finite rest = rw (model-same finite)
  handed-same true (given j ms) finite rest =
      by_cases (sys.fit_masks ms)
      (λ t. rw (t, model-same finite, storage-same (given j ms)))
      (λ t. rw (t, append_assoc (model_rules_with sys other false finite), append_assoc (model_rules_with sys m false finite)) (unfit-append finite _ _))
  handed-same false (given j ms) finite rest = by_cases (sys.fit_masks ms) (λ t. rw (t, model-same finite)) (λ t. rw t (unfit-append finite rest rest))

  pub refused-same : (c : Call sys) → refusal (rules_of sys c other rows) ≡ refusal (rules_of sys c m rows)
  unfolding rules_of
  refused-same c = rw (rest-same c) (handed-same (call_table sys c).row_storage (call_table sys c).masks (call_table sys c).finite (own_rules sys c m))

  -- ---- what is granted

  build-kept : (warm : Option Float) (substep j : ℕ) (t : List Float) → build_one store other warm substep j t ≡ build_one store m warm substep j t
  unfolding build_one build_joint built_rows
  build-kept warm substep j t =
      let r = s.reworded in
      rw (rows-kept laws s j, count_kept laws s j, r.enabled j, r.body1 j, r.body2 j, s.joint m.numbers j)

  swept_same : (n : ℕ) → rounds (sweep_round store w (joint_count store w m.numbers)) n (state rows m.bodies) ≡ rounds (sweep_round store m.words joints) n (state rows m.bodies)
  swept_same n = rw joints-same (rounds-same (sweep_round store w joints) (sweep_round store m.words joints) (round-kept laws s joints) n (state rows m.bodies))

  granted-same : (c : Call sys) → SameButFirsts u.Same (granted_of sys c m rows) (granted_of sys c other rows)
  unfolding granted_of
  granted-same load = record { answer = refl; params = refl; mark = refl; bodies = refl; words = rw joints-same (u.firsts joints same); numbers = refl; rows = refl }
  granted-same (place i pose) = record { answer = refl; params = refl; mark = refl; bodies = refl; words = same; numbers = refl; rows = refl }
  granted-same (build warm substep) = record {
    answer = ap total total-same;
    params = refl;
    mark = refl;
    bodies = refl;
    words = same;
    numbers = refl;
    rows = rw joints-same (each_same (build_one store other warm substep) (build_one store m warm substep) (build-kept warm substep) joints 0 rows);
  }
  granted-same warm_start = record {
    answer = refl;
    params = refl;
    mark = refl;
    bodies = rw joints-same (each_same (warmstart_one store w rows) (warmstart_one store m.words rows) (warm-kept laws s rows) joints 0 m.bodies);
    words = same;
    numbers = refl;
    rows = refl;
  }
  granted-same (sweep n) = record {
    answer = ap swept (rw joints-same (counts-kept laws s joints n (state rows m.bodies)));
    params = refl;
    mark = refl;
    bodies = ap (λ (st : State). st.bodies) (swept_same n);
    words = same;
    numbers = refl;
    rows = ap (λ (st : State). st.rows) (swept_same n);
  }
  granted-same remove_bias = record {
    answer = refl;
    params = refl;
    mark = refl;
    bodies = refl;
    words = same;
    numbers = refl;
    rows = rw joints-same (each_same (remove_bias_one store w) (remove_bias_one store m.words) (bias-kept laws s) joints 0 rows);
  }
  granted-same write_back = record {
    answer = refl;
    params = refl;
    mark = refl;
    bodies = refl;
    words = same;
    numbers = rw joints-same (each_same (write_back_one store rows w) (write_back_one store rows m.words) (back-kept laws s rows) joints 0 m.numbers);
    rows = refl;
  }
  granted-same (read_rows j) = record {
    answer = rw (ids-kept laws s j, of-kept laws s rows j);
    params = refl;
    mark = refl;
    bodies = refl;
    words = same;
    numbers = refl;
    rows = refl;
  }
  granted-same (read_velocity i) = record { answer = refl; params = refl; mark = refl; bodies = refl; words = same; numbers = refl; rows = refl }
  granted-same (set_masks j ms) = record { answer = refl; params = refl; mark = refl; bodies = refl; words = rw joints-same (u.firsts joints (u.masks j ms same)); numbers = refl; rows = refl }
  granted-same (further f) = record {
    answer = refl;
    params = refl;
    mark = refl;
    bodies = refl;
    words = same;
    numbers = u.numbers f m m.built same;
    rows = refl;
  }

  -- a call that is refused leaves both as they were
  pub unread : (c : Call sys) → SameButFirsts u.Same (run sys c m rows) (run sys c other rows)
  unread c =
      let k = refusal (rules_of sys c m rows) in
      by_cases (eqb k 0)
      (λ t.
      let z = eqb-true k 0 t in
      rw (← run-granted c m rows z, ← run-granted c other rows (refused-same c ∙ z)) (granted-same c))
      (λ t.
      let n = eqb-false k 0 t in
      rw (← run-refused c m rows refl n, ← run-refused c other rows (sym (refused-same c)) n) both-refused)
    where
      both-refused : {k : ℕ} → SameButFirsts {store = store} u.Same (outcome (refused k) m rows) (outcome (refused k) other rows)
      both-refused = record { answer = refl; params = refl; mark = refl; bodies = refl; words = same; numbers = refl; rows = refl }
