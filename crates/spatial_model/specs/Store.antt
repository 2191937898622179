-- Bodies, joints and rows of space as they stand in flat storage, by the layout of their records.
use Rattle.std.specs.Prelude.{ℕ, ◌+◌, ◌*◌, cond, List, [], ◌∷◌, eqb, ltb, set, Float}
use Rattle.floats.specs.Operators.{bits}
use Rattle.floats.specs.Constants.{one}
use Rattle.rows.specs.declared.generic_joint.JointLimits.{JointLimits}
use Rattle.rows.specs.declared.generic_joint.JointMotor.{JointMotor}
use Rattle.rows.specs.declared.generic_joint.Masks.{Masks}
use Rattle.rows.specs.declared.generic_joint.JointEnabled.{JointEnabled}
use Rattle.rows.specs.declared.joint_velocity_constraint.WritebackId.{WritebackId}
use Rattle.rows.specs.declared.joint_velocity_constraint.WritebackId.TheVariants.{Dof, Limit, Motor}
use Rattle.spatial_floats.specs.declared.vector.Vector.{Vector}
use Rattle.spatial_floats.specs.declared.pose.Pose.{Pose}
use Rattle.spatial_floats.specs.declared.angular_inertia_ops.SdpMatrix3.{SdpMatrix3}
use Rattle.spatial_rows.specs.SpatialMasks.{spatial_masks}
use Rattle.spatial_rows.specs.declared.generic_joint.GenericJoint.{GenericJoint}
use Rattle.spatial_rows.specs.declared.joint_constraint_builder.SolverPose.{SolverPose}
use Rattle.spatial_rows.specs.declared.joint_constraint_builder.ImpulseJoint.{ImpulseJoint}
use Rattle.spatial_rows.specs.declared.joint_velocity_constraint.SolverVel.{SolverVel}
use Rattle.spatial_rows.specs.declared.joint_velocity_constraint.JointConstraint.{JointConstraint}
use Rattle.multibody.specs.Model.{world}
use Rattle.multibody.specs.Records.{num, word, puts}
use Rattle.multibody.specs.JointRecords.{limits_of, motor_of, masks_of, enabled_of, axis_of}
use Rattle.spatial_model.specs.Layout.{row_width, body_width, pose_place, inertia_place, mass_place, velocity_place, words_width, body1_place, body2_place, masks_place, models_place, enabled_place, numbers_width, frame1_place, frame2_place, limits_place, limits_width, motors_place, motor_width, softness_place, dofs_place, limit_seed, motor_seed}

-- the vector in the three numbers from number o on, and a vector's numbers before others
abbrev pub vector_of : (ℕ → Float) → ℕ → Vector
vector_of f o = record { x = f o; y = f (o + 1); z = f (o + 2) }

abbrev pub then : Vector → List Float → List Float
then v vs = v.x ∷ v.y ∷ v.z ∷ vs

-- ---- rows

-- the row whose number c is f c
abbrev pub row_of_numbers : (ℕ → Float) → JointConstraint
row_of_numbers f = record {
  impulse = f 0;
  impulse_min = f 1;
  impulse_max = f 2;
  lin_jac = vector_of f 3;
  ang_jac1 = vector_of f 6;
  ang_jac2 = vector_of f 9;
  ii_ang_jac1 = vector_of f 12;
  ii_ang_jac2 = vector_of f 15;
  inv_lhs = f 18;
  rhs = f 19;
  rhs_wo_bias = f 20;
  cfm_gain = f 21;
  cfm_coeff = f 22;
  im1 = vector_of f 23;
  im2 = vector_of f 26;
}

-- row k of the storage
unfoldable pub row_at : List Float → ℕ → JointConstraint
row_at s k = row_of_numbers (num row_width s k)

-- a row's numbers
abbrev pub row_numbers : JointConstraint → List Float
row_numbers r =
    r.impulse ∷ r.impulse_min ∷ r.impulse_max
    ∷ then r.lin_jac (then r.ang_jac1 (then r.ang_jac2 (then r.ii_ang_jac1 (then r.ii_ang_jac2
    (r.inv_lhs ∷ r.rhs ∷ r.rhs_wo_bias ∷ r.cfm_gain ∷ r.cfm_coeff ∷ then r.im1 (then r.im2 []))))))

-- row k replaced
unfoldable pub put_row : List Float → ℕ → JointConstraint → List Float
put_row s k r = puts s (k * row_width) 0 (row_numbers r)

-- ---- bodies

-- the pose in the seven numbers from number o on: rotation x, y, z, w, then translation
abbrev pub pose_of : (ℕ → Float) → ℕ → Pose
pose_of f o = record { rotation = record { x = f o; y = f (o + 1); z = f (o + 2); w = f (o + 3) }; translation = vector_of f (o + 4) }

-- a pose's numbers
abbrev pub pose_numbers : Pose → List Float
pose_numbers p = p.rotation.x ∷ p.rotation.y ∷ p.rotation.z ∷ p.rotation.w ∷ then p.translation []

-- the inertia in the six numbers from number o on
abbrev pub inertia_of : (ℕ → Float) → ℕ → SdpMatrix3
inertia_of f o = record { m11 = f o; m12 = f (o + 1); m13 = f (o + 2); m22 = f (o + 3); m23 = f (o + 4); m33 = f (o + 5) }

abbrev pub zeros : Vector
zeros = record { x = bits 0; y = bits 0; z = bits 0 }

-- The world has the identity pose, and its inverse masses and inertia are zero.
abbrev pub world_pose : SolverPose
world_pose = record {
  pose = record { rotation = record { x = bits 0; y = bits 0; z = bits 0; w = one }; translation = zeros };
  ii = inertia_of (λ _. bits 0) 0;
  im = zeros;
}

-- what the rows read of body i
unfoldable pub solver_pose_at : List Float → ℕ → SolverPose
solver_pose_at b i =
    let f = num body_width b i in
    cond (eqb i world) world_pose (record { pose = pose_of f pose_place; ii = inertia_of f inertia_place; im = vector_of f mass_place })

-- no velocity
abbrev pub rest : SolverVel
rest = record { linear = zeros; angular = zeros }

-- the velocity of body i; the world's reads zero
unfoldable pub vel_at : List Float → ℕ → SolverVel
vel_at b i =
    let f = num body_width b i in
    cond (eqb i world) rest (record { linear = vector_of f velocity_place; angular = vector_of f (velocity_place + 3) })

-- a velocity's numbers
abbrev pub vel_numbers : SolverVel → List Float
vel_numbers v = then v.linear (then v.angular [])

-- body i's velocity replaced; what is written to the world's is dropped
unfoldable pub put_vel : List Float → ℕ → SolverVel → List Float
put_vel b i v = cond (eqb i world) b (puts b (i * body_width) velocity_place (vel_numbers v))

-- body i's pose replaced
unfoldable pub put_pose : List Float → ℕ → Pose → List Float
put_pose b i p = puts b (i * body_width) pose_place (pose_numbers p)

-- ---- joints

-- the limits of the three linear axes, and their motors
abbrev pub all_limits_of : (ℕ → Float) → List JointLimits
all_limits_of f = limits_of f limits_place ∷ limits_of f (limits_place + limits_width) ∷ limits_of f (limits_place + 2 * limits_width) ∷ []

abbrev pub all_motors_of : (ℕ → Float) → (ℕ → ℕ) → List JointMotor
all_motors_of f g =
    motor_of f motors_place (g models_place)
    ∷ motor_of f (motors_place + motor_width) (g (models_place + 1))
    ∷ motor_of f (motors_place + 2 * motor_width) (g (models_place + 2))
    ∷ []

-- The joint whose number c is f c and whose word c is g c. Its masks are read without the bits that rules 3 and 17 refuse.
abbrev pub data_of : (ℕ → Float) → (ℕ → ℕ) → GenericJoint
data_of f g = record {
  local_frame1 = pose_of f frame1_place;
  local_frame2 = pose_of f frame2_place;
  masks = spatial_masks (masks_of g masks_place);
  limits = all_limits_of f;
  motors = all_motors_of f g;
  softness = record { natural_frequency = f softness_place; damping_ratio = f (softness_place + 1) };
  enabled = enabled_of (g enabled_place);
}

-- its six Dof impulses
abbrev pub dofs_of : (ℕ → Float) → List Float
dofs_of f = f dofs_place ∷ f (dofs_place + 1) ∷ f (dofs_place + 2) ∷ f (dofs_place + 3) ∷ f (dofs_place + 4) ∷ f (dofs_place + 5) ∷ []

abbrev pub joint_of : (ℕ → Float) → (ℕ → ℕ) → ImpulseJoint
joint_of f g = record { «data» = data_of f g; impulses = dofs_of f }

-- joint j of the storage
unfoldable pub joint_at : List ℕ → List Float → ℕ → ImpulseJoint
joint_at words numbers j = joint_of (num numbers_width numbers j) (word words_width words j)

-- its masks
unfoldable pub masks_at : List ℕ → ℕ → Masks
masks_at words j = spatial_masks (masks_of (word words_width words j) masks_place)

-- whether it is enabled
unfoldable pub enabled_at : List ℕ → ℕ → JointEnabled
enabled_at words j = enabled_of (word words_width words j enabled_place)

-- its two bodies
unfoldable pub body1_at : List ℕ → ℕ → ℕ
body1_at words j = word words_width words j body1_place

unfoldable pub body2_at : List ℕ → ℕ → ℕ
body2_at words j = word words_width words j body2_place

-- which of a joint's numbers is an id's stored impulse
abbrev pub seed_index : WritebackId → ℕ
seed_index (Dof i) = dofs_place + i
seed_index (Limit i) = limits_place + limit_seed + i * limits_width
seed_index (Motor i) = motors_place + motor_seed + i * motor_width

-- how many axes have a stored impulse of an id's kind
abbrev pub seed_axes : WritebackId → ℕ
seed_axes (Dof i) = 6
seed_axes (Limit i) = 3
seed_axes (Motor i) = 3

-- joint j's stored impulse of an id replaced; an id past the last axis of its kind has none, and changes nothing
unfoldable pub put_seed : List Float → ℕ → WritebackId → Float → List Float
put_seed numbers j id p = cond (ltb (axis_of id) (seed_axes id)) (set numbers (j * numbers_width + seed_index id) p) numbers
