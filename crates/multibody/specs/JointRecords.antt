-- What stands in a joint's record in any number of axes: its limits, its motors, its masks, whether it is enabled.
use Rattle.std.specs.Prelude.{ℕ, ◌+◌, cond, eqb, Float}
use Rattle.rows.specs.declared.motor_model.MotorModel.{MotorModel}
use Rattle.rows.specs.declared.motor_model.MotorModel.TheVariants.{AccelerationBased, ForceBased}
use Rattle.rows.specs.declared.generic_joint.JointLimits.{JointLimits}
use Rattle.rows.specs.declared.generic_joint.JointMotor.{JointMotor}
use Rattle.rows.specs.declared.generic_joint.Masks.{Masks}
use Rattle.rows.specs.declared.generic_joint.JointEnabled.{JointEnabled}
use Rattle.rows.specs.declared.generic_joint.JointEnabled.TheVariants.{Enabled, DisabledByAttachedBody, Disabled}
use Rattle.rows.specs.declared.joint_velocity_constraint.WritebackId.{WritebackId}
use Rattle.rows.specs.declared.joint_velocity_constraint.WritebackId.TheVariants.{Dof, Limit, Motor}
use Rattle.multibody.specs.declared.records.Six.{Six}

-- of a record whose number c is f c, the six from number j on
abbrev pub six_of : (ℕ → Float) → ℕ → Six
six_of f j = record { n0 = f j; n1 = f (j + 1); n2 = f (j + 2); n3 = f (j + 3); n4 = f (j + 4); n5 = f (j + 5) }

-- the limits in the three numbers from number o on
abbrev pub limits_of : (ℕ → Float) → ℕ → JointLimits
limits_of f o = record { min = f o; max = f (o + 1); impulse = f (o + 2) }

-- 0 is acceleration based, and every other number force based
abbrev pub motor_model_of : ℕ → MotorModel
motor_model_of m = cond (eqb m 0) AccelerationBased ForceBased

-- the motor in the six numbers from number o on, with the model that word m says
abbrev pub motor_of : (ℕ → Float) → ℕ → ℕ → JointMotor
motor_of f o m = record {
  target_vel = f o;
  target_pos = f (o + 1);
  stiffness = f (o + 2);
  damping = f (o + 3);
  max_force = f (o + 4);
  impulse = f (o + 5);
  model = motor_model_of m;
}

-- the masks in the four words from word o on
abbrev pub masks_of : (ℕ → ℕ) → ℕ → Masks
masks_of g o = record { locked_axes = g o; limit_axes = g (o + 1); motor_axes = g (o + 2); coupled_axes = g (o + 3) }

-- the Rust's kinds in the order of its declaration; every other number is `Disabled`
abbrev pub enabled_of : ℕ → JointEnabled
enabled_of e = cond (eqb e 0) Enabled (cond (eqb e 1) DisabledByAttachedBody Disabled)

-- the axis that an id is of
abbrev pub axis_of : WritebackId → ℕ
axis_of (Dof i) = i
axis_of (Limit i) = i
axis_of (Motor i) = i
