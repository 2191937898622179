-- What an item is of which no line says anything: the Rust's defaults, by the Rust's names, as a model's records decode them. Proved in proofs/DefaultLaws.antt.
use Rattle.std.specs.Prelude.{None, ℕ, ◌≡◌, false, [], ◌∷◌, Float}
use Rattle.std.specs.Float.{binary32}
use Rattle.std.specs.Float.Ieee.{neg, round}
use Rattle.floats.specs.Constants.{max_float}
use Rattle.floats.specs.declared.pose.Pose.{Pose}
use Rattle.rows.specs.declared.integration_parameters.IntegrationParameters.{IntegrationParameters}
use Rattle.rows.specs.declared.motor_model.MotorModel.TheVariants.{AccelerationBased}
use Rattle.rows.specs.declared.generic_joint.JointLimits.{JointLimits}
use Rattle.rows.specs.declared.generic_joint.JointMotor.{JointMotor}
use Rattle.rows.specs.declared.generic_joint.JointEnabled.TheVariants.{Enabled}
use Rattle.rows.specs.declared.generic_joint.GenericJoint.{GenericJoint}
use Rattle.rows.specs.declared.joint_constraint_builder.SolverPose.{SolverPose}
use Rattle.rows.specs.declared.joint_constraint_builder.ImpulseJoint.{ImpulseJoint}
use Rattle.rows.specs.declared.joint_velocity_constraint.SolverVel.{SolverVel}
use Rattle.model.specs.Store.{solver_pose_at, vel_at, joint_at}
use Rattle.texts.specs.Ascii.{ascii}
use Rattle.study_reader.specs.Draft.{Draft}
use Rattle.study_reader.specs.Study.{study_of, settings_read, bodies_read, joints_read}

-- the f32 nearest to n / den
abbrev pub nearest : ℕ → ℕ → Float
nearest n den = round binary32 false n den

abbrev pub none : Float
none = nearest 0 1

abbrev pub identity : Pose
identity = record { rotation = record { re = nearest 1 1; im = none }; translation = record { x = none; y = none } }

-- `IntegrationParameters::default()`
abbrev pub default_settings : IntegrationParameters
default_settings = record { dt = nearest 1 60; length_unit = nearest 1 1; normalized_max_corrective_velocity = nearest 3 1 }

-- at the origin, at rest, with no mass
abbrev pub default_body : SolverPose
default_body = record { pose = identity; ii = none; im = record { x = none; y = none } }

abbrev pub default_velocity : SolverVel
default_velocity = record { linear = record { x = none; y = none }; angular = none }

-- `JointLimits::default()`
abbrev pub default_limits : JointLimits
default_limits = record { min = neg max_float; max = max_float; impulse = none }

-- `JointMotor::default()`
abbrev pub default_motor : JointMotor
default_motor = record {
  target_vel = none;
  target_pos = none;
  stiffness = none;
  damping = none;
  max_force = max_float;
  impulse = none;
  model = AccelerationBased;
}

-- `GenericJoint::default()`
abbrev pub default_data : GenericJoint
default_data = record {
  local_frame1 = identity;
  local_frame2 = identity;
  masks = record { locked_axes = 0; limit_axes = 0; motor_axes = 0; coupled_axes = 0 };
  limits = default_limits ∷ default_limits ∷ default_limits ∷ [];
  motors = default_motor ∷ default_motor ∷ default_motor ∷ [];
  softness = record { natural_frequency = nearest 1000000 1; damping_ratio = nearest 1 1 };
  enabled = Enabled;
}

-- no impulse is stored, and the angular limit has its centre at 0
abbrev pub default_joint : ImpulseJoint
default_joint = record {
  «data» = default_data;
  impulses = none ∷ none ∷ none ∷ [];
  center = record { re = nearest 1 1; im = none };
}

-- settings, bodies and joints of which no line says anything
abbrev pub bare_items : Draft
bare_items = study_of (ascii "settings\nbody a\njoint j a world\n")

pub record BareItems : Type 0 where
  pub no_fault : bare_items.state.fault ≡ None
  pub settings : settings_read bare_items ≡ default_settings
  pub body : solver_pose_at (bodies_read bare_items) 0 ≡ default_body
  pub velocity : vel_at (bodies_read bare_items) 0 ≡ default_velocity
  pub joint : joint_at bare_items.words (joints_read bare_items) 0 ≡ default_joint
