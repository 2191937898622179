-- The Rust's joint_velocity_constraint.rs, `writeback_impulses`: a row's impulse goes to its id's stored impulse.
use Rattle.std.specs.Prelude.{List, set, Float}
use Rattle.rows.specs.GenericJoint.{limits_at, motor_at}
use Rattle.rows.specs.declared.generic_joint.JointLimits.{JointLimits}
use Rattle.rows.specs.declared.generic_joint.JointMotor.{JointMotor}
use Rattle.rows.specs.declared.generic_joint.GenericJoint.{GenericJoint}
use Rattle.rows.specs.declared.joint_constraint_builder.ImpulseJoint.{ImpulseJoint}
use Rattle.rows.specs.declared.joint_velocity_constraint.WritebackId.{WritebackId}
use Rattle.rows.specs.declared.joint_velocity_constraint.WritebackId.TheVariants.{Dof, Limit, Motor}

-- a limit and a motor with another stored impulse
abbrev pub limits_with : JointLimits → Float → JointLimits
limits_with l p = record { min = l.min; max = l.max; impulse = p }

abbrev pub motor_with : JointMotor → Float → JointMotor
motor_with m p = record {
  target_vel = m.target_vel;
  target_pos = m.target_pos;
  stiffness = m.stiffness;
  damping = m.damping;
  max_force = m.max_force;
  impulse = p;
  model = m.model;
}

-- a joint with other limits and motors
abbrev pub data_with : GenericJoint → List JointLimits → List JointMotor → GenericJoint
data_with j limits motors = record {
  local_frame1 = j.local_frame1;
  local_frame2 = j.local_frame2;
  masks = j.masks;
  limits = limits;
  motors = motors;
  softness = j.softness;
  enabled = j.enabled;
}

-- a joint with other contents and other Dof impulses; its centre stays
abbrev pub joint_with : ImpulseJoint → GenericJoint → List Float → ImpulseJoint
joint_with joint «data» impulses = record { «data» = «data»; impulses = impulses; center = joint.center }

-- one stored impulse written; an axis past the last one has none
unfoldable pub writeback_of : ImpulseJoint → WritebackId → Float → ImpulseJoint
writeback_of joint (Dof i) p = joint_with joint joint.«data» (set joint.impulses i p)
writeback_of joint (Limit i) p =
    let «data» = joint.«data» in
    joint_with joint (data_with «data» (set «data».limits i (limits_with (limits_at «data» i) p)) «data».motors) joint.impulses
writeback_of joint (Motor i) p =
    let «data» = joint.«data» in
    joint_with joint (data_with «data» «data».limits (set «data».motors i (motor_with (motor_at «data» i) p))) joint.impulses
