-- The rules that only the plane has: 12 stands right after 6 (`checking-order`, and with new masks `masks-order`), and rules 13 to 15 come to the refusal of a motor table (`table-refusal`).
use Prim.Native.Nat.{ℕ}
use mathlib.Core.Path.{◌≡◌, refl, sym, ◌∙◌}
use mathlib.Core.Bool.{Bool}
use mathlib.Core.List.{List, [], ◌∷◌, map}
use mathlib.Core.Logic.{◌≢◌}
use lib.Ieee.{Float}
use Rattle.rows.specs.declared.generic_joint.Masks.{Masks}
use Rattle.motor_table.specs.Tables.{most_records, read_table, table_refusal, table_answer}
use Rattle.std.specs.Prelude.{Ok, Err}
use Rattle.motor_table.specs.Refusals.{refusal_number}
use Rattle.motor_table.specs.declared.refusal.TableRefusal.{TableRefusal}
use Rattle.motor_table.proofs.GrantedLaws.{refusal-cases, answer-refused, answer-granted}
use Rattle.multibody.specs.Model.{Model}
use Rattle.multibody.specs.Rules.{Rule, refusal}
use Rattle.multibody.specs.Refusals.{model_rules, model_rules_with, storage_rule, joint_rule}
use Rattle.multibody.specs.Calls.{rules_of}
use Rattle.multibody.specs.Calls.Call.{set_masks}
use Rattle.model.specs.Planar.{fault_rule, table_rules, planar}

-- document 01's order, with 12 right after 6
checking-order : (m : Model) (arguments : Bool) → map (λ (r : Rule). r.number) (model_rules planar m arguments) ≡ 1 ∷ 2 ∷ 3 ∷ 4 ∷ 5 ∷ 6 ∷ 12 ∷ 7 ∷ []
unfolding model_rules_with
checking-order m arguments = refl

-- and that of the call that changes masks
pub masks-order : (m : Model) (rows : List Float) (j : ℕ) (ms : Masks) → map (λ (r : Rule). r.number) (rules_of planar (set_masks j ms) m rows) ≡ 1 ∷ 2 ∷ 3 ∷ 4 ∷ 5 ∷ 6 ∷ 12 ∷ 7 ∷ 8 ∷ 11 ∷ []
unfolding rules_of model_rules_with storage_rule joint_rule
masks-order m rows j ms = refl

-- rules 13 to 15 come to the table's refusal
pub table-refusal : (joints : ℕ) (bytes : List ℕ) → refusal (table_rules joints bytes) ≡ table_refusal (read_table joints bytes)
unfolding table_rules refusal
table-refusal joints bytes = refusal-cases (λ k. refusal (fault_rule 13 k ∷ fault_rule 14 k ∷ fault_rule 15 k ∷ []) ≡ k) refl refl refl refl joints most_records bytes

module _ (n : ℕ) (bytes : List ℕ) {joints : ℕ} (e : joints ≡ n) where
  pub table-faulty : {r : TableRefusal} → table_answer 0 (read_table joints bytes) ≡ Err r → (refusal_number r ≡ refusal (table_rules n bytes)) × (refusal_number r ≢ 0)
  table-faulty {r} h =
      let a = answer-refused n most_records bytes 0 r (rw e at h) in
      (a.0 ∙ sym (table-refusal n bytes), a.1)

  pub table-read : {k : ℕ} → table_answer 0 (read_table joints bytes) ≡ Ok k → refusal (table_rules n bytes) ≡ 0
  table-read {k} h = table-refusal n bytes ∙ answer-granted n _ 0 k (rw e at h)
