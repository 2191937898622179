-- The answer of a row read as document 01 has it, and how its arrays are filled up. Those of the other calls are multibody's.
use Rattle.std.specs.Prelude.{◌≡◌, List, map, take, Result, Ok, Err, ⊤}
use Rattle.rows.specs.RowIds.{row_ids_array}
use Rattle.rows.specs.Update.{rows_array}
use Rattle.rows.specs.declared.generic_joint.Masks.{Masks}
use Rattle.rows.specs.declared.row_ids.RowId.{RowId}
use Rattle.rows.specs.declared.row_ids.RowIds.{RowIds}
use Rattle.rows.specs.declared.joint_velocity_constraint.Rows.{Rows}
use Rattle.rows.specs.declared.joint_velocity_constraint.WritebackId.{WritebackId}
use Rattle.model.specs.JointRows.{rows_list}
use Rattle.multibody.specs.Calls.{Answer}
use Rattle.multibody.specs.Calls.Answer.{rows_read}
use Rattle.multibody.specs.Answers.{answer_of}
use Rattle.multibody.specs.declared.refusal.Refusal.{Refusal}
use Rattle.model.specs.Planar.{plane}

-- a row read's ids and rows, held in arrays of six with a count
abbrev pub ids_list : RowIds → List WritebackId
ids_list r = map (λ (i : RowId). i.id) (take r.len r.ids)

abbrev pub rows_answer : Result (RowIds × Rows) Refusal → Answer plane
rows_answer = answer_of (λ r. rows_read (ids_list r.0) (rows_list r.1))

-- Past their counts the arrays are filled up. The first argument is the joint's masks.
abbrev pub RowsFilled : Masks → Result (RowIds × Rows) Refusal → Type 0
RowsFilled masks (Ok r) = (r.0 ≡ row_ids_array masks) × (r.1 ≡ rows_array (rows_list r.1))
RowsFilled masks (Err e) = ⊤
