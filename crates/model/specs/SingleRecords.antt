-- One row, one body's pose or velocity, one joint, one stored impulse, for callers who hold a storage of their own: read and stored where the record is there whole. Elsewhere zeros are
-- read, of a body the world, and nothing is stored.
use Rattle.std.specs.Prelude.{ℕ, ◌/◌, cond, List, ltb, length, Float}
use Rattle.floats.specs.Operators.{bits}
use Rattle.floats.specs.declared.pose.Pose.{Pose}
use Rattle.rows.specs.Update.{blank_row}
use Rattle.rows.specs.declared.joint_constraint_builder.ImpulseJoint.{ImpulseJoint}
use Rattle.rows.specs.declared.joint_velocity_constraint.JointConstraint.{JointConstraint}
use Rattle.rows.specs.declared.joint_velocity_constraint.SolverVel.{SolverVel}
use Rattle.rows.specs.declared.joint_velocity_constraint.WritebackId.{WritebackId}
use Rattle.model.specs.Layout.{numbers_width}
use Rattle.model.specs.Store.{row_at, put_row, world_pose, rest, solver_pose_at, vel_at, put_pose, joint_of, joint_at, put_seed}
use Rattle.multibody.specs.Counts.{body_count, joint_count, row_capacity}
use Rattle.model.specs.Planar.{plane}

unfoldable pub row_if_there : List Float → ℕ → JointConstraint
row_if_there rows k = cond (ltb k (row_capacity plane rows)) (row_at rows k) blank_row

unfoldable pub put_row_if_there : List Float → ℕ → JointConstraint → List Float
put_row_if_there rows k r = cond (ltb k (row_capacity plane rows)) (put_row rows k r) rows

-- body i's pose and velocity
unfoldable pub pose_if_there : List Float → ℕ → Pose
pose_if_there bodies i = cond (ltb i (body_count plane bodies)) (solver_pose_at bodies i).pose world_pose.pose

unfoldable pub vel_if_there : List Float → ℕ → SolverVel
vel_if_there bodies i = cond (ltb i (body_count plane bodies)) (vel_at bodies i) rest

unfoldable pub put_pose_if_there : List Float → ℕ → Pose → List Float
put_pose_if_there bodies i p = cond (ltb i (body_count plane bodies)) (put_pose bodies i p) bodies

abbrev pub blank_joint : ImpulseJoint
blank_joint = joint_of (λ _. bits 0) (λ _. 0)

unfoldable pub joint_if_there : List ℕ → List Float → ℕ → ImpulseJoint
joint_if_there words numbers j = cond (ltb j (joint_count plane words numbers)) (joint_at words numbers j) blank_joint

unfoldable pub put_seed_if_there : List Float → ℕ → WritebackId → Float → List Float
put_seed_if_there numbers j id p = cond (ltb j (length numbers / numbers_width)) (put_seed numbers j id p) numbers
