-- The rows and ids of a joint in space in arrays of nine. The array of at most nine rows gives their number (`rows_array-len`), the rows themselves, first
-- (`rows_array-rows`), and blank rows after them (`rows_array-blank`); the array of a joint's ids gives their number (`row_ids_array-len`), each id at
-- its place (`row_ids_array-id`) and all of them (`row_ids_array-ids`). The builder's `update` makes as many rows as the joint's masks name (`length-builder_update_of`), and with no
-- warm coefficient or in substep 0 it makes the same rows whatever the last impulses are (`reads-no-row`). Assumes nothing.
use Rattle.std.specs.Prelude.{Option, None}
use Prim.Native.Nat.{ℕ, ◌-◌, ◌≤◌, ◌<◌}
use mathlib.Core.Path.{◌≡◌, refl, sym, ◌∙◌}
use mathlib.Core.Logic.{◌⊎◌, inl, inr}
use mathlib.Core.List.{List, map}
use lib.ListN.{length, get_or, take, drop, replicate}
use lib.Ieee.{Float}
use Rattle.rows.specs.RowIds.{filled, row_ids}
use Rattle.rows.specs.declared.generic_joint.Masks.{Masks}
use Rattle.rows.specs.declared.integration_parameters.IntegrationParameters.{IntegrationParameters}
use Rattle.rows.specs.declared.joint_velocity_constraint.WritebackId.{WritebackId}
use Rattle.rows.specs.declared.row_ids.RowId.{RowId}
use Rattle.rows.proofs.Filled.{take-filled, drop-filled}
use Rattle.rows.proofs.RowArrays.{ids_filled-id, ids_filled-ids}
use Rattle.rows.proofs.WarmedFinalize.{length-warmed_all}
use Rattle.spatial_rows.specs.SpatialMasks.{spatial_masks}
use Rattle.spatial_rows.specs.RowIds.{row_ids_array}
use Rattle.spatial_rows.specs.Row.{with_impulse}
use Rattle.spatial_rows.specs.Update.{update_of, blank_row, rows_array}
use Rattle.spatial_rows.specs.Builder.{joint_context_of, seed_of, builder_update_of}
use Rattle.spatial_rows.specs.declared.joint_constraint_builder.SolverPose.{SolverPose}
use Rattle.spatial_rows.specs.declared.joint_constraint_builder.ImpulseJoint.{ImpulseJoint}
use Rattle.spatial_rows.specs.declared.joint_velocity_constraint.JointConstraint.{JointConstraint}
use Rattle.spatial_rows.specs.declared.joint_velocity_constraint.RowContext.{RowContext}
use Rattle.spatial_rows.proofs.NineRows.{at-most-nine}
use Rattle.spatial_rows.proofs.UpdateRows.{length-update_of}
use Rattle.spatial_rows.proofs.WarmedRows.{context-joint}
use Rattle.spatial_rows.proofs.BuilderLaws.{first-reads-no-row, cold}

-- ---- the array of rows

module _ (l : List JointConstraint) where
  -- the array as it is filled
  pub rows_array-filled : rows_array l ≡ record { rows = filled 9 blank_row l; len = length l }
  unfolding rows_array
  rows_array-filled = refl

  pub rows_array-len : (rows_array l).len ≡ length l
  unfolding rows_array
  rows_array-len = refl

  pub rows_array-rows : length l ≤ 9 → take (rows_array l).len (rows_array l).rows ≡ l
  unfolding rows_array
  rows_array-rows h = take-filled blank_row 9 (length l) l refl h

  pub rows_array-blank : length l ≤ 9 → drop (rows_array l).len (rows_array l).rows ≡ replicate (9 - length l) blank_row
  unfolding rows_array
  rows_array-blank h = drop-filled blank_row 9 (length l) l refl h

-- ---- the array of ids

module _ (k : Masks) where
  pub row_ids_array-len : (row_ids_array k).len ≡ length (row_ids 3 3 (spatial_masks k))
  unfolding row_ids_array
  row_ids_array-len = refl

  -- d and e stand for what would be read past the ends
  pub row_ids_array-id : (i : ℕ) (d : RowId) (e : WritebackId) → i < length (row_ids 3 3 (spatial_masks k)) → (get_or (row_ids_array k).ids i d).id ≡ get_or (row_ids 3 3 (spatial_masks k)) i e
  unfolding row_ids_array
  row_ids_array-id = ids_filled-id 9 (row_ids 3 3 (spatial_masks k)) (at-most-nine k)

  pub row_ids_array-ids : map (λ (i : RowId). i.id) (take (row_ids_array k).len (row_ids_array k).ids) ≡ row_ids 3 3 (spatial_masks k)
  unfolding row_ids_array
  row_ids_array-ids = ids_filled-ids 9 (row_ids 3 3 (spatial_masks k)) (at-most-nine k)

-- ---- the rows that the builder makes

module _ (params : IntegrationParameters) (substep : ℕ) (warm : Option Float) (body1 body2 : SolverPose) (joint : ImpulseJoint) where
  pub length-builder_update_of : (prevs : List Float) → length (builder_update_of params substep warm body1 body2 joint prevs) ≡ length (row_ids 3 3 (spatial_masks joint.«data».masks))
  unfolding builder_update_of
  length-builder_update_of prevs =
      let cx : RowContext = joint_context_of params body1 body2 joint in
      length-warmed_all with_impulse warm substep (seed_of joint) (row_ids 3 3 (spatial_masks joint.«data».masks)) prevs (update_of cx) (length-update_of cx ∙ rw context-joint)

  pub reads-no-row : (warm ≡ None) ⊎ (substep ≡ 0) → (ps qs : List Float) → builder_update_of params substep warm body1 body2 joint ps ≡ builder_update_of params substep warm body1 body2 joint qs
  reads-no-row (inl e) ps qs = rw e (cold params body1 body2 substep joint ps ∙ sym (cold params body1 body2 substep joint qs))
  reads-no-row (inr e) ps qs = rw e (first-reads-no-row params body1 body2 warm joint ps qs)
