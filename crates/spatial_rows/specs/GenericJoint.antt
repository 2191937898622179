-- The Rust's generic_joint.rs in space: limits and motors, by linear axis. What a limit and a motor are is the crate rows'.
use Rattle.std.specs.Prelude.{ℕ, get_or}
use Rattle.rows.specs.GenericJoint.{no_limits, no_motor}
use Rattle.rows.specs.declared.generic_joint.JointLimits.{JointLimits}
use Rattle.rows.specs.declared.generic_joint.JointMotor.{JointMotor}
use Rattle.spatial_rows.specs.declared.generic_joint.GenericJoint.{GenericJoint}

-- axis i's limits and motor
abbrev pub limits_at : GenericJoint → ℕ → JointLimits
limits_at j i = get_or j.limits i no_limits

abbrev pub motor_at : GenericJoint → ℕ → JointMotor
motor_at j i = get_or j.motors i no_motor
