-- What `update` puts together: the array of the rows of all ids, of which each group is orthogonalised, is the array of the joint's rows
-- (`updated`). The counts that it is cut by fit in six places (`counts`).
use Prim.Native.Nat.{◌≤◌}
use native.Mathlib.Omega.{arith}
use mathlib.Core.Path.{◌≡◌, ap}
use mathlib.Core.List.{List}
use lib.ListN.{length, length-append}
use Rattle.rows.specs.declared.joint_velocity_constraint.JointConstraint.{JointConstraint}
use Rattle.rows.specs.declared.joint_velocity_constraint.RowContext.{RowContext}
use Rattle.rows.specs.declared.joint_velocity_constraint.Rows.{Rows}
use Rattle.rows.specs.declared.generic_joint.Masks.{Masks}
use Rattle.rows.specs.declared.row_ids.RowIds.{RowIds}
use Rattle.rows.specs.RowIds.{group_one, group_two, row_ids, row_ids_array}
use Rattle.rows.specs.Finalize.{row_group, finalize_groups}
use Rattle.rows.specs.Update.{row_of, update_of, blank_row, rows_array, made_rows}
use Rattle.rows.proofs.GroupLaws.{length-groups, made_array}
use Rattle.rows.proofs.RowIdsCount.{at-most-six}

pub length-update_of : (cx : RowContext) → length (update_of cx) ≡ length (row_ids 2 1 cx.joint.masks)
unfolding update_of row_ids
length-update_of cx = length-groups row_group (row_of cx) (group_one 2 1 cx.joint.masks) (group_two 2 1 cx.joint.masks)

-- the groups' numbers of rows
pub group-counts : (masks : Masks) → (length (group_one 2 1 masks) ≤ length (row_ids 2 1 masks)) × (length (row_ids 2 1 masks) ≤ 6)
unfolding row_ids
group-counts masks = (omega (arith, length-append (group_one 2 1 masks) (group_two 2 1 masks)), at-most-six masks)

module _ (masks : Masks) {ids : RowIds} (e : ids ≡ row_ids_array masks) where
  pub counts : (ids.first ≤ ids.len) × (ids.len ≤ 6)
  unfolding row_ids_array
  counts = rw e (group-counts masks)

pub updated : (cx : RowContext) {ids : RowIds} {rows : List JointConstraint} → ids ≡ row_ids_array cx.joint.masks
    → rows ≡ finalize_groups ids.first ids.len (made_rows cx ids.ids ids.len)
    → ◌≡◌ {A = Rows} (record { rows = rows; len = ids.len }) (rows_array (update_of cx))
unfolding row_ids_array row_ids update_of rows_array made_rows
updated cx e er =
    let done = made_array row_group blank_row (row_of cx) 6 (group_one 2 1 cx.joint.masks) (group_two 2 1 cx.joint.masks) (at-most-six cx.joint.masks) (ap (λ i. i.ids) e) (ap (λ i. i.first) e) (ap (λ i. i.len) e) er in
    λ i. record { rows = done.0 i; len = done.1 i }
