-- A program's answers by Result: what a `?` passes on is the refusal itself, whose number is not 0. And rule 8 after those of the model.
use Prim.Native.Nat.{ℕ, ◌<◌, ◌≤◌}
use mathlib.Core.Path.{◌≡◌, refl, sym, ap, ◌∙◌}
use mathlib.Core.Bool.{Bool, true, not}
use mathlib.Core.List.{List, [], ◌∷◌, ◌++◌}
use mathlib.Core.Logic.{◌≢◌}
use native.Mathlib.Omega.{arith}
use borrow.Author.Tests.{lt-ltb, le-ltb}
use lib.Ieee.{Float}
use Rattle.std.specs.Prelude.{Result, Err, IsErrAnd}
use Rattle.std.proofs.lemmas.Result.{err_from_is_err_and}
use Rattle.multibody.specs.Rules.{refusal}
use Rattle.multibody.specs.Model.{Model}
use Rattle.multibody.specs.System.{System}
use Rattle.multibody.specs.Counts.{joint_count, row_capacity, rows_before}
use Rattle.multibody.specs.Refusals.{model_rules, storage_rule}
use Rattle.motor_table.specs.Refusals as table
use Rattle.motor_table.specs.declared.refusal.TableRefusal.{TableRefusal}
use Rattle.multibody.specs.Answers.{refusal_number, refusal_of_table}
use Rattle.multibody.specs.declared.refusal.Refusal.{Refusal}
use Rattle.multibody.specs.declared.refusal.Refusal.TheVariants.{TooManyBodies, TooManyJoints, MaskOutOfRange, NoSuchBody, SameBodies, NotFinite, NegativeDt, NoRoom, TooManyRounds, NotBuilt, NoSuchIndex, AngleTooLarge, TableBroken, NotThreeNumbers, NoSuchAxis, Substeps, NotLinearAlone}
use Rattle.multibody.proofs.Laws.{Laws}
use Rattle.multibody.proofs.RuleLaws.{no-rules, rule-holds, rule-fails, granted-append, refused-append}
use Rattle.multibody.proofs.RefusalLaws.{model-numbered}

-- no refusal has the number of what is granted
pub not-granted : (e : Refusal) → refusal_number e ≢ 0
not-granted TooManyBodies = omega arith
not-granted TooManyJoints = omega arith
not-granted MaskOutOfRange = omega arith
not-granted NoSuchBody = omega arith
not-granted SameBodies = omega arith
not-granted NotFinite = omega arith
not-granted NegativeDt = omega arith
not-granted NoRoom = omega arith
not-granted TooManyRounds = omega arith
not-granted NotBuilt = omega arith
not-granted NoSuchIndex = omega arith
not-granted AngleTooLarge = omega arith
not-granted TableBroken = omega arith
not-granted NotThreeNumbers = omega arith
not-granted NoSuchAxis = omega arith
not-granted Substeps = omega arith
not-granted NotLinearAlone = omega arith

-- a motor table's refusal has its number
pub table-numbered : (t : TableRefusal) → refusal_number (refusal_of_table t) ≡ table.refusal_number t
table-numbered TableRefusal.Broken = refl
table-numbered TableRefusal.NotThreeNumbers = refl
table-numbered TableRefusal.Absent = refl

-- what a `?` returns
pub passed-on : {A : Type 0} {e : Refusal} (r : Result A Refusal) → IsErrAnd r (λ y. y ≡ e) → r ≡ Err e
passed-on r h = let p = err_from_is_err_and r h in rw (p.1, p.2)

-- ---- rules 1 to 8, for a call that is handed row storage

module _ {sys : System} (laws : Laws sys) (m : Model) (arguments : Bool) (rows : List Float) where
  open sys use {store}

  pub model-fails : {k : ℕ} → k ≡ refusal (model_rules sys m arguments) → k ≢ 0 → k ≡ refusal (model_rules sys m arguments ++ (storage_rule store m rows ∷ []))
  model-fails e n = e ∙ sym (refused-append (model_rules sys m arguments) _ (λ z. n (e ∙ z)))

  module _ (e : 0 ≡ refusal (model_rules sys m arguments)) {joints total room : ℕ} (j : joints ≡ joint_count store m.words m.numbers) (w : total ≡ rows_before store m.words joints) (r : room ≡ row_capacity store rows) where
    eighth : refusal (model_rules sys m arguments ++ (storage_rule store m rows ∷ [])) ≡ refusal (storage_rule store m rows ∷ [])
    eighth = granted-append (model_rules sys m arguments) _ (model-numbered laws m true arguments) (sym e)

    pub storage-short : room < total → 8 ≡ refusal (model_rules sys m arguments ++ (storage_rule store m rows ∷ []))
    unfolding storage_rule
    storage-short s = sym (eighth ∙ rule-fails _ _ (ap not (lt-ltb _ _ (rw (w, j, r) at s))))

    pub storage-holds : total ≤ room → 0 ≡ refusal (model_rules sys m arguments ++ (storage_rule store m rows ∷ []))
    unfolding storage_rule
    storage-holds s = sym (eighth ∙ rule-holds _ _ (ap not (le-ltb _ _ (rw (w, j, r) at s))) ∙ no-rules)
