-- The Rust's generic_joint.rs: motors and limits, by axis.
-- A limit's ends and a motor's target position are in metres along a linear axis and in radians about the angular one, its target velocity in m/s and rad/s, and its
-- maximum force in N and N·m; a motor is a spring of that stiffness and damping towards its targets.
use Rattle.std.specs.Prelude.{ℕ, Bool, true, false, cond, get_or, Float}
use Rattle.std.specs.Float.{nan}
use Rattle.std.specs.Float.Ieee.{eq}
use Rattle.floats.specs.Operators.{bits, ◌⊗◌}
use Rattle.rows.specs.MotorModel.{combine_coefficients_of}
use Rattle.rows.specs.declared.motor_model.MotorModel.TheVariants.{AccelerationBased}
use Rattle.rows.specs.declared.generic_joint.JointLimits.{JointLimits}
use Rattle.rows.specs.declared.generic_joint.JointMotor.{JointMotor}
use Rattle.rows.specs.declared.joint_velocity_constraint.MotorParameters.{MotorParameters}
use Rattle.rows.specs.declared.generic_joint.GenericJoint.{GenericJoint}
use Rattle.rows.specs.declared.generic_joint.JointEnabled.{JointEnabled}
use Rattle.rows.specs.declared.generic_joint.JointEnabled.TheVariants.{Enabled, DisabledByAttachedBody, Disabled}

-- `JointMotor::max_impulse`, force times dt: zero where dt is zero, whatever the force
unfoldable pub max_impulse_of : Float → Float → Float
max_impulse_of max_force dt = cond (eq dt (bits 0)) (bits 0) (max_force ⊗ dt)

-- `motor_params`
unfoldable pub motor_params_of : JointMotor → Float → MotorParameters
motor_params_of m dt =
    let c = combine_coefficients_of m.model dt m.stiffness m.damping in
    record {
      erp_inv_dt = c.erp_inv_dt;
      cfm_coeff = c.cfm_coeff;
      cfm_gain = c.cfm_gain;
      target_pos = m.target_pos;
      target_vel = m.target_vel;
      max_impulse = max_impulse_of m.max_force dt;
    }

-- `is_enabled`: a joint of neither disabled kind
abbrev pub is_enabled : JointEnabled → Bool
is_enabled Enabled = true
is_enabled DisabledByAttachedBody = false
is_enabled Disabled = false

-- what stands past the last axis, where no row reads
abbrev pub no_limits : JointLimits
no_limits = record { min = nan; max = nan; impulse = nan }

abbrev pub no_motor : JointMotor
no_motor = record {
  target_vel = nan;
  target_pos = nan;
  stiffness = nan;
  damping = nan;
  max_force = nan;
  impulse = nan;
  model = AccelerationBased;
}

-- axis i's limits and motor
abbrev pub limits_at : GenericJoint → ℕ → JointLimits
limits_at j i = get_or j.limits i no_limits

abbrev pub motor_at : GenericJoint → ℕ → JointMotor
motor_at j i = get_or j.motors i no_motor
