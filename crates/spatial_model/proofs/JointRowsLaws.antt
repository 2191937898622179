-- Arrays of nine that hold a joint's rows and ids: how many they hold, and which. What is read of them in turn is multibody's.
use Rattle.std.specs.Prelude.{Option}
use Prim.Native.Nat.{ℕ, ◌<◌}
use mathlib.Core.Path.{◌≡◌, ap, ◌∙◌}
use mathlib.Core.Bool.{true}
use mathlib.Core.List.{List}
use lib.ListN.{length, get_or}
use lib.Ieee.{Float}
use Rattle.rows.specs.GenericJoint.{is_enabled}
use Rattle.rows.specs.RowIds.{filled}
use Rattle.spatial_rows.specs.RowIds.{row_ids_array}
use Rattle.spatial_rows.specs.Update.{rows_array, blank_row}
use Rattle.spatial_rows.specs.Builder.{builder_update_of}
use Rattle.rows.specs.declared.integration_parameters.IntegrationParameters.{IntegrationParameters}
use Rattle.spatial_rows.specs.declared.joint_constraint_builder.SolverPose.{SolverPose}
use Rattle.spatial_rows.specs.declared.joint_constraint_builder.ImpulseJoint.{ImpulseJoint}
use Rattle.spatial_rows.specs.declared.joint_velocity_constraint.JointConstraint.{JointConstraint}
use Rattle.rows.specs.declared.joint_velocity_constraint.WritebackId.TheVariants.{Dof}
use Rattle.spatial_rows.specs.declared.joint_velocity_constraint.Rows.{Rows}
use Rattle.rows.specs.declared.row_ids.RowId.{RowId}
use Rattle.spatial_rows.specs.declared.row_ids.RowIds.{RowIds}
use Rattle.spatial_rows.proofs.RowArrays.{rows_array-len, rows_array-rows, rows_array-filled, row_ids_array-len, row_ids_array-id}
use Rattle.multibody.specs.JointRows.{joint_ids, row_count, row_masks_at}
use Rattle.multibody.specs.Calls.{rows_from}
use Rattle.multibody.proofs.JointRowsLaws.{few-rows, count-built}
use Rattle.multibody.proofs.StoredRows.{rows_from-length}
use Rattle.spatial_model.specs.Store.{joint_at, enabled_at}
use Rattle.spatial_model.specs.JointRows.{rows_list}
use Rattle.spatial_model.specs.Spatial.{space}
use Rattle.spatial_model.proofs.MaskLaws.{row_masks_at-spatial}
use Rattle.spatial_model.proofs.SpatialLaws.{spatial-laws}

-- the array of the rows that are made: their number, and the rows themselves
module _ (params : IntegrationParameters) (substep : ℕ) (warm : Option Float) (body1 body2 : SolverPose) (words : List ℕ) (numbers : List Float) (j : ℕ)
    {joint : ImpulseJoint} (prevs : List Float) {made : Rows} (on : is_enabled (enabled_at words j) ≡ true) (e : joint ≡ joint_at words numbers j)
    (m : made ≡ rows_array (builder_update_of params substep warm body1 body2 joint prevs)) where
  count : length (builder_update_of params substep warm body1 body2 joint prevs) ≡ row_count space words j
  count = count-built spatial-laws params substep warm body1 body2 words numbers j prevs on e

  pub built-len : made.len ≡ row_count space words j
  built-len = ap (λ m. m.len) m ∙ rows_array-len (builder_update_of params substep warm body1 body2 joint prevs) ∙ count

  pub built-rows : rows_list made ≡ builder_update_of params substep warm body1 body2 joint prevs
  built-rows = ap (λ m. rows_list m) m ∙ rows_array-rows (builder_update_of params substep warm body1 body2 joint prevs) (few-rows spatial-laws words j count)

-- the array of a joint's ids
pub ids-len : (words : List ℕ) (j : ℕ) {ids : RowIds} → ids ≡ row_ids_array (row_masks_at space words j) → ids.len ≡ row_count space words j
unfolding joint_ids row_count
ids-len words j e = ap (λ m. m.len) e ∙ row_ids_array-len (row_masks_at space words j) ∙ rw row_masks_at-spatial

pub id-at : (words : List ℕ) (j i : ℕ) (d : RowId) {ids : RowIds} → i < row_count space words j → ids ≡ row_ids_array (row_masks_at space words j)
    → (get_or ids.ids i d).id ≡ get_or (joint_ids space words j) i (Dof 0)
unfolding joint_ids row_count
id-at words j i d h e = ap (λ m. (get_or m.ids i d).id) e ∙ row_ids_array-id (row_masks_at space words j) i d (Dof 0) (rw row_masks_at-spatial h) ∙ rw row_masks_at-spatial

-- the array of the rows that are read, once it holds n
pub rows-array : (s : List Float) (k n : ℕ) {out : List JointConstraint} → out ≡ filled 9 blank_row (rows_from space s k n)
    → ◌≡◌ {A = Rows} (record { rows = out; len = n }) (rows_array (rows_from space s k n))
rows-array s k n e = cc (rows_array-filled (rows_from space s k n), rows_from-length space s k n)
