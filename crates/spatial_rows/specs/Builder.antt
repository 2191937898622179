-- The Rust's joint_constraint_builder.rs in space: `update`, after `update_warmstart_seeds`.
use Rattle.std.specs.Prelude.{ℕ, List, get_or, Float, Option}
use Rattle.std.specs.Float.{nan}
use Rattle.spatial_floats.specs.Pose.{pose_product_of}
use Rattle.rows.specs.RowIds.{row_ids}
use Rattle.rows.specs.Warmed as Warmed
use Rattle.rows.specs.declared.integration_parameters.IntegrationParameters.{IntegrationParameters}
use Rattle.rows.specs.declared.joint_velocity_constraint.WritebackId.{WritebackId}
use Rattle.rows.specs.declared.joint_velocity_constraint.WritebackId.TheVariants.{Dof, Limit, Motor}
use Rattle.spatial_rows.specs.SpatialMasks.{spatial_masks}
use Rattle.spatial_rows.specs.GenericJoint.{limits_at, motor_at}
use Rattle.spatial_rows.specs.Makers.{two_bodies}
use Rattle.spatial_rows.specs.Update.{context_of, update_of}
use Rattle.spatial_rows.specs.Row.{with_impulse}
use Rattle.spatial_rows.specs.declared.joint_constraint_builder.SolverPose.{SolverPose}
use Rattle.spatial_rows.specs.declared.joint_constraint_builder.ImpulseJoint.{ImpulseJoint}
use Rattle.spatial_rows.specs.declared.joint_velocity_constraint.JointSolverBody.{JointSolverBody}
use Rattle.spatial_rows.specs.declared.joint_velocity_constraint.JointConstraint.{JointConstraint}
use Rattle.spatial_rows.specs.declared.joint_velocity_constraint.RowContext.{RowContext}

-- what a row reads of a body at its pose
unfoldable pub solver_body_of : SolverPose → JointSolverBody
solver_body_of b = record { im = b.im; ii = b.ii; world_com = b.pose.translation }

-- the context of a joint between two bodies: each frame is the body's pose times the joint's local frame
unfoldable pub joint_context_of : IntegrationParameters → SolverPose → SolverPose → ImpulseJoint → RowContext
joint_context_of params body1 body2 joint =
    let «data» = joint.«data» in
    let frame1 = pose_product_of body1.pose «data».local_frame1 in
    let frame2 = pose_product_of body2.pose «data».local_frame2 in
    context_of params (two_bodies (solver_body_of body1) (solver_body_of body2)) frame1 frame2 «data»

-- an id's stored impulse: its seed
unfoldable pub seed_of : ImpulseJoint → WritebackId → Float
seed_of joint (Dof i) = get_or joint.impulses i nan
seed_of joint (Limit i) = (limits_at joint.«data» i).impulse
seed_of joint (Motor i) = (motor_at joint.«data» i).impulse

-- where a row's impulse starts (the crate rows' specs/Warmed), and the rows of a joint, by ids whose seeds are the joint's
abbrev pub warmed_of : Option Float → ℕ → Float → Float → JointConstraint → JointConstraint
warmed_of = Warmed.warmed_of with_impulse

abbrev pub warmed_all : Option Float → ℕ → ImpulseJoint → List WritebackId → List Float → List JointConstraint → List JointConstraint
warmed_all warm substep joint = Warmed.warmed_all with_impulse warm substep (seed_of joint)

-- the builder's `update`: prevs are the impulses of the rows of the last build, by row
unfoldable pub builder_update_of : IntegrationParameters → ℕ → Option Float → SolverPose → SolverPose → ImpulseJoint → List Float → List JointConstraint
builder_update_of params substep warm body1 body2 joint prevs =
    warmed_all warm substep joint (row_ids 3 3 (spatial_masks joint.«data».masks)) prevs (update_of (joint_context_of params body1 body2 joint))
