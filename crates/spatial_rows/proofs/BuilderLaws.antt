-- Where the rows of a joint in space start. In substep 0 they read no row of the last build (`first-reads-no-row`); with no warm coefficient they are the rows that
-- `update` makes, whose impulses are 0 (`cold`, `made-impulses`). Assumes nothing.
use Rattle.std.specs.Prelude.{Option, None}
use Prim.Native.Nat.{ℕ}
use mathlib.Core.Path.{◌≡◌, refl, sym, ◌∙◌}
use mathlib.Core.Bool.{Bool, true, false, cond}
use mathlib.Core.List.{List, [], ◌∷◌, map, map-append}
use lib.Dec.{ltb}
use lib.Ieee.{Float}
use Rattle.floats.specs.Operators.{bits}
use Rattle.rows.specs.RowIds.{group_one, group_two, row_ids}
use Rattle.rows.specs.Groups as Groups
use Rattle.rows.specs.declared.integration_parameters.IntegrationParameters.{IntegrationParameters}
use Rattle.rows.specs.declared.joint_velocity_constraint.WritebackId.{WritebackId}
use Rattle.rows.specs.declared.joint_velocity_constraint.WritebackId.TheVariants.{Dof, Limit, Motor}
use Rattle.rows.proofs.GroupLaws.{kept-finalize_of}
use Rattle.rows.proofs.WarmedFinalize.{warmed_all-first, warmed_all-cold}
use Rattle.spatial_rows.specs.SpatialMasks.{spatial_masks}
use Rattle.spatial_rows.specs.Row.{with_impulse}
use Rattle.spatial_rows.specs.Makers.{assemble_of, lock_linear_of, lock_angular_of, limit_linear_of, motor_linear_of}
use Rattle.spatial_rows.specs.Finalize.{head_of, less_of, row_group, finalize_of}
use Rattle.spatial_rows.specs.Update.{row_of, update_of}
use Rattle.spatial_rows.specs.Builder.{joint_context_of, seed_of, builder_update_of}
use Rattle.spatial_rows.specs.declared.joint_constraint_builder.SolverPose.{SolverPose}
use Rattle.spatial_rows.specs.declared.joint_constraint_builder.ImpulseJoint.{ImpulseJoint}
use Rattle.spatial_rows.specs.declared.joint_velocity_constraint.JointConstraint.{JointConstraint}
use Rattle.spatial_rows.specs.declared.joint_velocity_constraint.RowContext.{RowContext}
use Rattle.spatial_rows.proofs.UpdateRows.{length-update_of}
use Rattle.spatial_rows.proofs.WarmedRows.{context-joint}

-- a group keeps its rows' impulses
impulses-finalize_of : (cs : List JointConstraint) → map (λ r. r.impulse) (finalize_of cs) ≡ map (λ r. r.impulse) cs
unfolding head_of less_of Groups.reduce_of
impulses-finalize_of cs = kept-finalize_of row_group (λ r. r.impulse) (λ im c. refl) (λ im p c. refl) cs

-- ---- cold rows

cond-impulse : (b : Bool) (r s : JointConstraint) (p : Float) → r.impulse ≡ p → s.impulse ≡ p → (cond b r s).impulse ≡ p
cond-impulse true r s p e f = e
cond-impulse false r s p e f = f

pub row-impulse : (cx : RowContext) (i : WritebackId) → (row_of cx i).impulse ≡ bits 0
unfolding row_of lock_linear_of lock_angular_of limit_linear_of motor_linear_of assemble_of
row-impulse cx (Dof i) = cond-impulse (ltb i 3) _ _ (bits 0) refl refl
row-impulse cx (Limit i) = refl
row-impulse cx (Motor i) = refl

rows-impulses : (cx : RowContext) (is : List WritebackId) → map (λ r. r.impulse) (finalize_of (map (row_of cx) is)) ≡ map (λ i. bits 0) is
rows-impulses cx is = impulses-finalize_of (map (row_of cx) is) ∙ at is
  where
    at : (is : List WritebackId) → map (λ r. r.impulse) (map (row_of cx) is) ≡ map (λ i. bits 0) is
    at [] = refl
    at (i ∷ is) = rw (row-impulse cx i, at is)

pub made-impulses : (cx : RowContext) → map (λ r. r.impulse) (update_of cx) ≡ map (λ i. bits 0) (row_ids 3 3 (spatial_masks cx.joint.masks))
unfolding update_of row_ids
made-impulses cx =
    let one : List WritebackId = group_one 3 3 (spatial_masks cx.joint.masks) in
    let two : List WritebackId = group_two 3 3 (spatial_masks cx.joint.masks) in
    map-append (λ r. r.impulse) (finalize_of (map (row_of cx) one)) (finalize_of (map (row_of cx) two))
    ∙ rw (rows-impulses cx one, rows-impulses cx two) (sym (map-append (λ i. bits 0) one two))

module _ (params : IntegrationParameters) (body1 body2 : SolverPose) where
  pub first-reads-no-row : (warm : Option Float) (joint : ImpulseJoint) (ps qs : List Float)
      → builder_update_of params 0 warm body1 body2 joint ps ≡ builder_update_of params 0 warm body1 body2 joint qs
  unfolding builder_update_of
  first-reads-no-row warm joint ps qs =
      warmed_all-first with_impulse warm (seed_of joint) (row_ids 3 3 (spatial_masks joint.«data».masks)) ps qs (update_of (joint_context_of params body1 body2 joint))

  -- with no warm coefficient the rows are those that `update` makes, whose impulses are 0
  pub cold : (substep : ℕ) (joint : ImpulseJoint) (prevs : List Float)
      → builder_update_of params substep None body1 body2 joint prevs ≡ update_of (joint_context_of params body1 body2 joint)
  unfolding builder_update_of
  cold substep joint prevs =
      warmed_all-cold with_impulse substep (seed_of joint) (row_ids 3 3 (spatial_masks joint.«data».masks)) prevs (update_of (joint_context_of params body1 body2 joint))
      (length-update_of (joint_context_of params body1 body2 joint) ∙ rw context-joint)
