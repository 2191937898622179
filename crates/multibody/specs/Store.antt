-- What bodies, joints and rows are in a kind of multibody system, how they stand in flat storage, and what is done to one row: its numbers of linear and angular axes, types, widths, reads and stores. The
-- plane has two linear axes and one angular, space has three of each. The names are the Rust's, which has the same in dim2 and in dim3.
use Rattle.std.specs.Prelude.{ℕ, List, Float, Option}
use Rattle.floats.specs.declared.scalar.Side.{Side}
use Rattle.rows.specs.declared.integration_parameters.IntegrationParameters.{IntegrationParameters}
use Rattle.rows.specs.declared.generic_joint.Masks.{Masks}
use Rattle.rows.specs.declared.generic_joint.JointEnabled.{JointEnabled}
use Rattle.rows.specs.declared.joint_velocity_constraint.WritebackId.{WritebackId}

-- what a warm start, and what a step, makes of a row and of the velocities of its two bodies
pub record Warmed (Vel : Type 0) : Type 0 where
  pub vel1 : Vel
  pub vel2 : Vel

pub record Stepped (Row Vel : Type 0) : Type 0 where
  pub row : Row
  pub vel1 : Vel
  pub vel2 : Vel
  pub side : Side

pub record Store : Type 1 where
  -- how many linear and angular axes, and the most rows that a joint makes
  pub linear : ℕ
  pub angular : ℕ
  pub most_rows : ℕ
  -- a pose; what the rows read of a body; its velocity; a row; a joint with its stored impulses
  pub Pose : Type 0
  pub SolverPose : Type 0
  pub SolverVel : Type 0
  pub JointConstraint : Type 0
  pub ImpulseJoint : Type 0
  -- how many numbers or words a record has
  pub row_width : ℕ
  pub body_width : ℕ
  pub words_width : ℕ
  pub numbers_width : ℕ
  -- rows, bodies and joints in storage, read and replaced
  pub row_at : List Float → ℕ → JointConstraint
  pub put_row : List Float → ℕ → JointConstraint → List Float
  pub vel_at : List Float → ℕ → SolverVel
  pub put_vel : List Float → ℕ → SolverVel → List Float
  pub solver_pose_at : List Float → ℕ → SolverPose
  pub put_pose : List Float → ℕ → Pose → List Float
  pub joint_at : List ℕ → List Float → ℕ → ImpulseJoint
  pub masks_at : List ℕ → ℕ → Masks
  pub enabled_at : List ℕ → ℕ → JointEnabled
  pub body1_at : List ℕ → ℕ → ℕ
  pub body2_at : List ℕ → ℕ → ℕ
  pub put_seed : List Float → ℕ → WritebackId → Float → List Float
  -- a joint's first row stored among its words (document 02, R-10); a kind that stores none leaves the words as they are
  pub put_first : List ℕ → ℕ → ℕ → List ℕ
  -- a joint's rows; what is done to one row; a stored impulse; equal contents, unnamed numbers aside
  pub builder_update_of : IntegrationParameters → ℕ → Option Float → SolverPose → SolverPose → ImpulseJoint → List Float → List JointConstraint
  pub impulse_of : JointConstraint → Float
  pub step_of : JointConstraint → SolverVel → SolverVel → Stepped JointConstraint SolverVel
  pub warmstart_of : JointConstraint → SolverVel → SolverVel → Warmed SolverVel
  pub remove_bias_of : JointConstraint → JointConstraint
  pub seed_of : ImpulseJoint → WritebackId → Float
  pub SameNamed : (WritebackId → Type 0) → ImpulseJoint → ImpulseJoint → Type 0
