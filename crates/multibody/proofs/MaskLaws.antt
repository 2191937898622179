-- The call that changes masks (document 02, R-10), by its rules: masks that do not fit are 3, or a number before it (`unfit-refused`); then the rules of the model (`model-refused`); then
-- rule 8 by the total with the new masks (`short-refused`) and rule 11 (`missing-refused`); where all hold it is granted (`masks-granted`). And the number of a joint's rows once one has other masks.
use Prim.Native.Nat.{ℕ, ◌<◌, ◌≤◌}
use mathlib.Core.Path.{◌≡◌, refl, sym, ap, ◌∙◌}
use mathlib.Core.Logic.{◌≢◌}
use mathlib.Core.Bool.{Bool, true, false, not, false≢true}
use mathlib.Core.List.{List, [], ◌∷◌, ◌++◌, append_assoc}
use native.Mathlib.Omega.{arith}
use borrow.Author.Tests.{lt-ltb, le-ltb}
use lib.Dec.{ltb}
use lib.ListN.{length}
use lib.Ieee.{Float}
use Rattle.rows.specs.GenericJoint.{is_enabled}
use Rattle.rows.specs.RowIds.{row_ids}
use Rattle.rows.specs.declared.generic_joint.Masks.{Masks}
use Rattle.multibody.specs.Rules.{Rule, refusal}
use Rattle.multibody.specs.Model.{Model, most_bodies, most_joints}
use Rattle.multibody.specs.System.{System}
use Rattle.multibody.specs.JointRows.{row_masks_at, joint_ids, row_count}
use Rattle.multibody.specs.Counts.{body_count, joint_count, row_capacity, rows_before, total_rows}
use Rattle.multibody.specs.Refusals.{model_rules, model_rules_with, storage_rule, joint_rule}
use Rattle.multibody.specs.Calls.{changed, rules_of, granted_of, run, outcome}
use Rattle.multibody.specs.Calls.Call.{set_masks}
use Rattle.multibody.specs.Calls.Change.{given}
use Rattle.multibody.specs.Calls.Answer.{refused}
use Rattle.multibody.proofs.Laws.{Laws}
use Rattle.multibody.proofs.JointRowsLaws.{count-disabled}
use Rattle.multibody.proofs.RuleLaws.{no-rules, rule-holds, rule-fails, granted-append, refused-append}
use Rattle.multibody.proofs.CallLaws.{run-granted, run-refused}
use Rattle.multibody.proofs.RefusalLaws.{model-numbered, rules-fit}
use Rattle.multibody.proofs.Rewording.{same_count}

module _ {sys : System} (laws : Laws sys) where
  open sys use {store, NewMasks, fit_masks, put_masks, mask_rules}
  open store use {linear, angular, masks_at, enabled_at}

  -- ---- rows with other masks of one joint

  module _ (w : List ℕ) (i j : ℕ) (ms : NewMasks) where
    pub count-apart : i ≢ j → row_count store (put_masks w j ms) i ≡ row_count store w i
    unfolding row_count joint_ids row_masks_at
    count-apart n = rw (laws.masks_at-put_masks-other w j i ms n, (laws.put_masks-reworded w j ms).enabled i)

    -- the joint itself, by the masks that it then has
    pub count-enabled : {masks : Masks} → masks_at (put_masks w j ms) i ≡ masks → is_enabled (enabled_at w i) ≡ true → length (row_ids linear angular masks) ≡ row_count store (put_masks w j ms) i
    unfolding row_count joint_ids row_masks_at
    count-enabled e on =
        let still : is_enabled (enabled_at (put_masks w j ms) i) ≡ true = rw ((laws.put_masks-reworded w j ms).enabled i) on in
        rw (still, e)

    pub count_none : is_enabled (enabled_at w i) ≡ false → 0 ≡ row_count store (put_masks w j ms) i
    count_none off = sym (count-disabled laws (put_masks w j ms) i (rw ((laws.put_masks-reworded w j ms).enabled i) off))

  -- ---- masks that do not fit

  module _ (m : Model) (arguments : Bool) where
    pub unfit-bodies : {n : ℕ} → n ≡ body_count store m.bodies → most_bodies < n → 1 ≡ refusal (model_rules_with sys m false arguments)
    unfolding model_rules_with
    unfit-bodies b h = sym (rule-fails _ _ (ap not (lt-ltb most_bodies _ (rw b at h))))

    pub unfit-joints : {n joints : ℕ} → n ≡ body_count store m.bodies → joints ≡ joint_count store m.words m.numbers → n ≤ most_bodies → most_joints < joints
        → 2 ≡ refusal (model_rules_with sys m false arguments)
    unfolding model_rules_with
    unfit-joints b j h g = sym (rule-holds _ _ (ap not (le-ltb most_bodies _ (rw b at h))) ∙ rule-fails _ _ (ap not (lt-ltb most_joints _ (rw j at g))))

    pub unfit-masks : {n joints : ℕ} → n ≡ body_count store m.bodies → joints ≡ joint_count store m.words m.numbers → n ≤ most_bodies → joints ≤ most_joints
        → 3 ≡ refusal (model_rules_with sys m false arguments)
    unfolding model_rules_with
    unfit-masks b j h g =
        let words = mask_rules m.words (joint_count store m.words m.numbers) false in
        let e = laws.own-masks m.words (joint_count store m.words m.numbers) in
        sym (rule-holds _ _ (ap not (le-ltb most_bodies _ (rw b at h))) ∙ rule-holds _ _ (ap not (le-ltb most_joints _ (rw j at g))) ∙ refused-append words _ (λ z. omega (arith, e, z)) ∙ e)

  -- ---- the call

  module _ (m : Model) (rows : List Float) (j : ℕ) (ms : NewMasks) where
    abbrev eighth : Rule
    eighth = storage_rule store (changed {sys = sys} m (given j ms)) rows

    abbrev last : List Rule
    last = eighth ∷ joint_rule store m j ∷ []

    change-rules : {fit : Bool} → fit_masks ms ≡ fit → refusal (rules_of sys (set_masks j ms) m rows) ≡ refusal (model_rules_with sys m fit true ++ last)
    unfolding rules_of
    change-rules e = rw (← e) (ap refusal (append_assoc (model_rules_with sys m (fit_masks ms) true) (eighth ∷ []) (joint_rule store m j ∷ [])))

    abbrev Refuses : ℕ → Type 0
    Refuses k = outcome (refused k) m rows ≡ run sys (set_masks j ms) m rows

    pub unfit-refused : {k : ℕ} → fit_masks ms ≡ false → k ≡ refusal (model_rules_with sys m false true) → Refuses k
    unfit-refused {k} f e =
        let n : refusal (model_rules_with sys m false true) ≢ 0 = λ z. false≢true (rules-fit laws m true false z) in
        run-refused (set_masks j ms) m rows (e ∙ sym (change-rules f ∙ refused-append (model_rules_with sys m false true) last n)) (λ z. n (sym e ∙ z))

    module _ (fit : fit_masks ms ≡ true) {k : ℕ} (e : k ≡ refusal (model_rules sys m true)) where
      pub model-refused : k ≢ 0 → Refuses k
      model-refused n = run-refused (set_masks j ms) m rows (e ∙ sym (change-rules fit ∙ refused-append (model_rules sys m true) last (λ z. n (e ∙ z)))) n

      -- the rules of the model hold: the last two decide, with the total and the room that the code has
      module _ (z : k ≡ 0) {total joints room : ℕ} (n : joints ≡ joint_count store m.words m.numbers) (t : total ≡ rows_before store (put_masks m.words j ms) joints)
          (c : room ≡ row_capacity store rows) where
        last-decide : refusal (rules_of sys (set_masks j ms) m rows) ≡ refusal last
        last-decide = change-rules fit ∙ granted-append (model_rules sys m true) last (model-numbered laws m true true) (sym e ∙ z)

        new-total : total_rows store (put_masks m.words j ms) m.numbers ≡ total
        new-total = ap (rows_before store (put_masks m.words j ms)) (same_count laws (laws.put_masks-reworded m.words j ms) m.numbers ∙ sym n) ∙ sym t

        eighth-tells : eighth.holds ≡ not (ltb room total)
        unfolding storage_rule
        eighth-tells = rw (c, new-total)

        eighth-number : eighth.number ≡ 8
        unfolding storage_rule
        eighth-number = refl

        pub short-refused : room < total → Refuses 8
        short-refused s =
            run-refused (set_masks j ms) m rows (sym (last-decide ∙ rule-fails eighth (joint_rule store m j ∷ []) (eighth-tells ∙ ap not (lt-ltb room total s)) ∙ eighth-number)) (omega arith)

        module _ (s : total ≤ room) where
          enough : refusal (rules_of sys (set_masks j ms) m rows) ≡ refusal (joint_rule store m j ∷ [])
          enough = last-decide ∙ rule-holds eighth (joint_rule store m j ∷ []) (eighth-tells ∙ ap not (le-ltb room total s))

          pub missing-refused : joints ≤ j → Refuses 11
          unfolding joint_rule
          missing-refused l = run-refused (set_masks j ms) m rows (sym (enough ∙ rule-fails _ _ (rw (← n) (le-ltb j joints l)))) (omega arith)

          pub masks-granted : j < joints → granted_of sys (set_masks j ms) m rows ≡ run sys (set_masks j ms) m rows
          unfolding joint_rule
          masks-granted l = run-granted (set_masks j ms) m rows (enough ∙ rule-holds _ _ (rw (← n) (lt-ltb j joints l)) ∙ no-rules)
