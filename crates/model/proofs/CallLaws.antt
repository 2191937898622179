-- The answer of a row read in the form in which the program gives it: the outcome as every call's, and how its arrays are filled.
use Prim.Native.Nat.{ℕ}
use mathlib.Core.Path.{◌≡◌, refl, sym, ap, ◌∙◌}
use mathlib.Core.List.{List}
use native.Mathlib.Omega.{arith}
use Rattle.std.specs.Prelude.{Ok}
use lib.Ieee.{Float}
use Rattle.rows.specs.declared.joint_velocity_constraint.Rows.{Rows}
use Rattle.rows.specs.declared.row_ids.RowIds.{RowIds}
use Rattle.rows.specs.RowIds.{row_ids_array}
use Rattle.rows.specs.Update.{rows_array}
use Rattle.rows.proofs.RowArrays.{rows_array-rows, row_ids_array-ids}
use Rattle.multibody.specs.JointRows.{joint_ids, row_count, row_masks_at}
use Rattle.multibody.specs.Model.{Model}
use Rattle.multibody.specs.Counts.{rows_before}
use Rattle.multibody.specs.Calls.{outcome, granted_of, run, rows_from, rows_of}
use Rattle.multibody.specs.Calls.Call.{read_rows}
use Rattle.multibody.specs.Calls.Answer.{rows_read}
use Rattle.multibody.proofs.JointRowsLaws.{few-rows}
use Rattle.multibody.proofs.StoredRows.{rows_from-length}
use Rattle.model.specs.JointRows.{rows_list}
use Rattle.model.specs.Planar.{plane, planar}
use Rattle.model.specs.Answers.{ids_list, rows_answer, RowsFilled}
use Rattle.model.proofs.PlanarLaws.{planar-laws}

-- ---- a row read's answer

read-ids : (j : ℕ) (m : Model) → ids_list (row_ids_array (row_masks_at plane m.words j)) ≡ joint_ids plane m.words j
unfolding joint_ids
read-ids j m = row_ids_array-ids (row_masks_at plane m.words j)

read-rows : (j : ℕ) (m : Model) (rows : List Float) → rows_list (rows_array (rows_from plane rows (rows_before plane m.words j) (row_count plane m.words j))) ≡ rows_of plane m.words rows j
unfolding rows_of
read-rows j m rows =
    let k = rows_before plane m.words j in
    let n = row_count plane m.words j in
    rows_array-rows (rows_from plane rows k n) (omega (arith, rows_from-length plane rows k n, few-rows planar-laws m.words j {n = n} refl))

module _ (j : ℕ) (m : Model) (rows : List Float) where
  pub rows-granted : {ids : RowIds} {first count : ℕ} {read : Rows} → ids ≡ row_ids_array (row_masks_at plane m.words j)
      → first ≡ rows_before plane m.words j → count ≡ row_count plane m.words j → read ≡ rows_array (rows_from plane rows first count)
      → granted_of planar (read_rows j) m rows ≡ run planar (read_rows j) m rows
      → (outcome (rows_answer (Ok (ids, read))) m rows ≡ run planar (read_rows j) m rows) × RowsFilled (row_masks_at plane m.words j) (Ok (ids, read))
  unfolding granted_of rows_of
  rows-granted {read = read} i f c r o =
      let k = rows_before plane m.words j in
      let n = row_count plane m.words j in
      let same : read ≡ rows_array (rows_from plane rows k n) = rw (← f, ← c) r in
      let first = ap ids_list i ∙ read-ids j m in
      let last = ap rows_list same ∙ read-rows j m rows in (
        ap (λ is. outcome (rows_read is (rows_list read)) m rows) first ∙ ap (λ rs. outcome (rows_read (joint_ids plane m.words j) rs) m rows) last ∙ o,
        (i, same ∙ ap rows_array (sym last)),
      )
