-- A granted load leaves the words as they are (`load-granted`). The answer of a row read in the form in which the program gives it: the outcome as every call's, and how its arrays are filled.
use Prim.Native.Nat.{ℕ}
use mathlib.Core.Path.{◌≡◌, refl, sym, ap, ◌∙◌}
use mathlib.Core.Bool.{false}
use mathlib.Core.List.{List}
use native.Mathlib.Omega.{arith}
use Rattle.std.specs.Prelude.{Ok}
use lib.Ieee.{Float}
use Rattle.spatial_rows.specs.declared.joint_velocity_constraint.Rows.{Rows}
use Rattle.spatial_rows.specs.declared.row_ids.RowIds.{RowIds}
use Rattle.spatial_rows.specs.RowIds.{row_ids_array}
use Rattle.spatial_rows.specs.Update.{rows_array}
use Rattle.spatial_rows.proofs.RowArrays.{rows_array-rows, row_ids_array-ids}
use Rattle.multibody.specs.JointRows.{joint_ids, row_count, row_masks_at}
use Rattle.multibody.specs.Model.{Model, with_mark}
use Rattle.multibody.specs.Counts.{rows_before}
use Rattle.multibody.specs.Calls.{Outcome, outcome, granted_of, run, rows_from, rows_of}
use Rattle.multibody.specs.Calls.Call.{load, read_rows}
use Rattle.multibody.specs.Calls.Answer.{granted, rows_read}
use Rattle.multibody.proofs.JointRowsLaws.{few-rows}
use Rattle.multibody.proofs.StoredFirsts.{firsts-left}
use Rattle.multibody.proofs.StoredRows.{rows_from-length}
use Rattle.spatial_model.specs.JointRows.{rows_list}
use Rattle.spatial_model.specs.Spatial.{space, spatial}
use Rattle.spatial_model.specs.Answers.{ids_list, rows_answer, RowsFilled}
use Rattle.spatial_model.proofs.MaskLaws.{row_masks_at-spatial}
use Rattle.spatial_model.proofs.SpatialLaws.{spatial-laws}

-- ---- a load

pub load-granted : (m : Model) (rows : List Float) {o : Outcome space} → granted_of spatial load m rows ≡ o → outcome granted (with_mark m false) rows ≡ o
unfolding granted_of
load-granted m rows e = rw (firsts-left space (λ w j k. refl)) at e

-- ---- a row read's answer

read-ids : (j : ℕ) (m : Model) → ids_list (row_ids_array (row_masks_at space m.words j)) ≡ joint_ids space m.words j
unfolding joint_ids
read-ids j m = row_ids_array-ids (row_masks_at space m.words j) ∙ rw row_masks_at-spatial

read-rows : (j : ℕ) (m : Model) (rows : List Float) → rows_list (rows_array (rows_from space rows (rows_before space m.words j) (row_count space m.words j))) ≡ rows_of space m.words rows j
unfolding rows_of
read-rows j m rows =
    let k = rows_before space m.words j in
    let n = row_count space m.words j in
    rows_array-rows (rows_from space rows k n) (omega (arith, rows_from-length space rows k n, few-rows spatial-laws m.words j {n = n} refl))

module _ (j : ℕ) (m : Model) (rows : List Float) where
  pub rows-granted : {ids : RowIds} {first count : ℕ} {read : Rows} → ids ≡ row_ids_array (row_masks_at space m.words j)
      → first ≡ rows_before space m.words j → count ≡ row_count space m.words j → read ≡ rows_array (rows_from space rows first count)
      → granted_of spatial (read_rows j) m rows ≡ run spatial (read_rows j) m rows
      → (outcome (rows_answer (Ok (ids, read))) m rows ≡ run spatial (read_rows j) m rows) × RowsFilled (row_masks_at space m.words j) (Ok (ids, read))
  unfolding granted_of rows_of
  rows-granted {read = read} i f c r o =
      let k = rows_before space m.words j in
      let n = row_count space m.words j in
      let same : read ≡ rows_array (rows_from space rows k n) = rw (← f, ← c) r in
      let first = ap ids_list i ∙ read-ids j m in
      let last = ap rows_list same ∙ read-rows j m rows in (
        ap (λ is. outcome (rows_read is (rows_list read)) m rows) first ∙ ap (λ rs. outcome (rows_read (joint_ids space m.words j) rs) m rows) last ∙ o,
        (i, same ∙ ap rows_array (sym last)),
      )
