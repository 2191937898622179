-- Bodies, joints and rows as they stand in flat storage, by the layout of their records.
use Rattle.std.specs.Prelude.{ℕ, ◌+◌, ◌*◌, ◌≤◌, ◌≡◌, cond, List, [], ◌∷◌, eqb, ltb, length, set, Float}
use Rattle.floats.specs.Operators.{bits}
use Rattle.floats.specs.Constants.{one}
use Rattle.floats.specs.SinCos.{rotation_from_angle_of}
use Rattle.floats.specs.declared.rotation_ops.Rotation.{Rotation}
use Rattle.floats.specs.declared.pose.Pose.{Pose}
use Rattle.rows.specs.declared.generic_joint.JointLimits.{JointLimits}
use Rattle.rows.specs.declared.generic_joint.JointMotor.{JointMotor}
use Rattle.rows.specs.declared.generic_joint.Masks.{Masks}
use Rattle.rows.specs.declared.generic_joint.JointEnabled.{JointEnabled}
use Rattle.rows.specs.declared.generic_joint.GenericJoint.{GenericJoint}
use Rattle.rows.specs.declared.joint_constraint_builder.SolverPose.{SolverPose}
use Rattle.rows.specs.declared.joint_constraint_builder.ImpulseJoint.{ImpulseJoint}
use Rattle.rows.specs.declared.joint_velocity_constraint.SolverVel.{SolverVel}
use Rattle.rows.specs.declared.joint_velocity_constraint.JointConstraint.{JointConstraint}
use Rattle.rows.specs.declared.joint_velocity_constraint.WritebackId.{WritebackId}
use Rattle.rows.specs.declared.joint_velocity_constraint.WritebackId.TheVariants.{Dof, Limit, Motor}
pub use Rattle.multibody.specs.Model.{world}
pub use Rattle.multibody.specs.JointRecords.{limits_of, motor_model_of, motor_of, masks_of, enabled_of, axis_of}
use Rattle.model.specs.Layout.{row_width, body_width, pose_place, inertia_place, mass_place, velocity_place, words_width, body1_place, body2_place, masks_place, models_place, numbers_width, frame1_place, frame2_place, limits_place, limits_width, motors_place, motor_width, softness_place, dofs_place, center_place, limit_seed, motor_seed, target_place, enabled_place, center_choice_place, first_row_place}
use Rattle.model.specs.Records.{num, word, puts}
use Rattle.model.specs.declared.store.LimitCenter.{LimitCenter}
use Rattle.model.specs.declared.store.LimitCenter.TheVariants.{CosineSine, Angle}

-- ---- rows

-- the row whose number c is f c
abbrev pub row_of_numbers : (ℕ → Float) → JointConstraint
row_of_numbers f = record {
  impulse = f 0;
  impulse_min = f 1;
  impulse_max = f 2;
  lin_jac = record { x = f 3; y = f 4 };
  ang_jac1 = f 5;
  ang_jac2 = f 6;
  ii_ang_jac1 = f 7;
  ii_ang_jac2 = f 8;
  inv_lhs = f 9;
  rhs = f 10;
  rhs_wo_bias = f 11;
  cfm_gain = f 12;
  cfm_coeff = f 13;
  im1 = record { x = f 14; y = f 15 };
  im2 = record { x = f 16; y = f 17 };
}

-- row k of the storage
unfoldable pub row_at : List Float → ℕ → JointConstraint
row_at s k = row_of_numbers (num row_width s k)

-- a row's numbers
abbrev pub row_numbers : JointConstraint → List Float
row_numbers r =
    r.impulse ∷ r.impulse_min ∷ r.impulse_max ∷ r.lin_jac.x ∷ r.lin_jac.y ∷ r.ang_jac1 ∷ r.ang_jac2 ∷ r.ii_ang_jac1 ∷ r.ii_ang_jac2
    ∷ r.inv_lhs ∷ r.rhs ∷ r.rhs_wo_bias ∷ r.cfm_gain ∷ r.cfm_coeff ∷ r.im1.x ∷ r.im1.y ∷ r.im2.x ∷ r.im2.y ∷ []

-- row k replaced
unfoldable pub put_row : List Float → ℕ → JointConstraint → List Float
put_row s k r = puts s (k * row_width) 0 (row_numbers r)

-- ---- bodies

-- body i is the world, or its record is there
abbrev pub Present : List Float → ℕ → Type 0
Present b i = (i ≡ world → ⊥) → i * body_width + body_width ≤ length b

-- the pose in the four numbers from number o on
abbrev pub pose_of : (ℕ → Float) → ℕ → Pose
pose_of f o = record { rotation = record { re = f o; im = f (o + 1) }; translation = record { x = f (o + 2); y = f (o + 3) } }

-- The world has the identity pose, and its inverse masses and inertia are zero.
abbrev pub world_pose : SolverPose
world_pose = record {
  pose = record { rotation = record { re = one; im = bits 0 }; translation = record { x = bits 0; y = bits 0 } };
  ii = bits 0;
  im = record { x = bits 0; y = bits 0 };
}

-- what the rows read of body i
unfoldable pub solver_pose_at : List Float → ℕ → SolverPose
solver_pose_at b i =
    cond (eqb i world) world_pose
    (record {
      pose = pose_of (num body_width b i) pose_place;
      ii = num body_width b i inertia_place;
      im = record { x = num body_width b i mass_place; y = num body_width b i (mass_place + 1) };
    })

-- no velocity
abbrev pub rest : SolverVel
rest = record { linear = record { x = bits 0; y = bits 0 }; angular = bits 0 }

-- the velocity of body i; the world's reads zero
unfoldable pub vel_at : List Float → ℕ → SolverVel
vel_at b i =
    cond (eqb i world) rest
    (record {
      linear = record { x = num body_width b i velocity_place; y = num body_width b i (velocity_place + 1) };
      angular = num body_width b i (velocity_place + 2);
    })

-- body i's velocity replaced; what is written to the world's is dropped
unfoldable pub put_vel : List Float → ℕ → SolverVel → List Float
put_vel b i v = cond (eqb i world) b (puts b (i * body_width) velocity_place (v.linear.x ∷ v.linear.y ∷ v.angular ∷ []))

-- body i's pose replaced
unfoldable pub put_pose : List Float → ℕ → Pose → List Float
put_pose b i p = puts b (i * body_width) pose_place (p.rotation.re ∷ p.rotation.im ∷ p.translation.x ∷ p.translation.y ∷ [])

-- ---- joints

-- the limits of the three axes, and their motors
abbrev pub all_limits_of : (ℕ → Float) → List JointLimits
all_limits_of f = limits_of f limits_place ∷ limits_of f (limits_place + limits_width) ∷ limits_of f (limits_place + 2 * limits_width) ∷ []

abbrev pub all_motors_of : (ℕ → Float) → (ℕ → ℕ) → List JointMotor
all_motors_of f g =
    motor_of f motors_place (g models_place)
    ∷ motor_of f (motors_place + motor_width) (g (models_place + 1))
    ∷ motor_of f (motors_place + 2 * motor_width) (g (models_place + 2))
    ∷ []

-- the joint whose number c is f c and whose word c is g c
abbrev pub data_of : (ℕ → Float) → (ℕ → ℕ) → GenericJoint
data_of f g = record {
  local_frame1 = pose_of f frame1_place;
  local_frame2 = pose_of f frame2_place;
  masks = masks_of g masks_place;
  limits = all_limits_of f;
  motors = all_motors_of f g;
  softness = record { natural_frequency = f softness_place; damping_ratio = f (softness_place + 1) };
  enabled = enabled_of (g enabled_place);
}

-- the centre as it is typed: 0 is cosine and sine, and every other number an angle; the number after an angle is then nobody's
abbrev pub center_of : (ℕ → Float) → (ℕ → ℕ) → LimitCenter
center_of f g = cond (eqb (g center_choice_place) 0) (CosineSine (f center_place) (f (center_place + 1))) (Angle (f center_place))

-- the cosine and sine that the rows read
abbrev pub rotation_of : LimitCenter → Rotation
rotation_of (CosineSine re im) = record { re = re; im = im }
rotation_of (Angle angle) = rotation_from_angle_of angle

abbrev pub joint_of : (ℕ → Float) → (ℕ → ℕ) → ImpulseJoint
joint_of f g = record {
  «data» = data_of f g;
  impulses = f dofs_place ∷ f (dofs_place + 1) ∷ f (dofs_place + 2) ∷ [];
  center = rotation_of (center_of f g);
}

-- joint j of the storage
unfoldable pub joint_at : List ℕ → List Float → ℕ → ImpulseJoint
joint_at words numbers j = joint_of (num numbers_width numbers j) (word words_width words j)

-- its centre as it is typed
unfoldable pub center_at : List ℕ → List Float → ℕ → LimitCenter
center_at words numbers j = center_of (num numbers_width numbers j) (word words_width words j)

-- its masks
unfoldable pub masks_at : List ℕ → ℕ → Masks
masks_at words j = masks_of (word words_width words j) masks_place

-- and these replaced (document 02, R-10)
unfoldable pub put_masks : List ℕ → ℕ → Masks → List ℕ
put_masks words j ms =
    let o = j * words_width in
    set (set (set (set words (o + masks_place) ms.locked_axes) (o + (masks_place + 1)) ms.limit_axes) (o + (masks_place + 2)) ms.motor_axes) (o + (masks_place + 3))
    ms.coupled_axes

-- whether it is enabled
unfoldable pub enabled_at : List ℕ → ℕ → JointEnabled
enabled_at words j = enabled_of (word words_width words j enabled_place)

-- its first row as it is stored; no call reads it
unfoldable pub first_at : List ℕ → ℕ → ℕ
first_at words j = word words_width words j first_row_place

unfoldable pub put_first : List ℕ → ℕ → ℕ → List ℕ
put_first words j k = set words (j * words_width + first_row_place) k

-- its two bodies
unfoldable pub body1_at : List ℕ → ℕ → ℕ
body1_at words j = word words_width words j body1_place

unfoldable pub body2_at : List ℕ → ℕ → ℕ
body2_at words j = word words_width words j body2_place

-- which of a joint's numbers is an id's stored impulse; an axis past the last one has none
abbrev pub seed_index : WritebackId → ℕ
seed_index (Dof i) = dofs_place + i
seed_index (Limit i) = limits_place + limit_seed + i * limits_width
seed_index (Motor i) = motors_place + motor_seed + i * motor_width

-- joint j's stored impulse of an id replaced; an id past the last axis has none, and changes nothing
unfoldable pub put_seed : List Float → ℕ → WritebackId → Float → List Float
put_seed numbers j id p = cond (ltb (axis_of id) 3) (set numbers (j * numbers_width + seed_index id) p) numbers

-- the target velocity of joint j's motor on axis i replaced
unfoldable pub put_target : List Float → ℕ → ℕ → Float → List Float
put_target numbers j i v = set numbers (j * numbers_width + target_place i) v
