-- The spatial model as a kind of multibody system (document 02, R-14): its store, three linear axes and three angular, and over it its rules. It has document 01's calls alone: no new masks, no motor tables, no stored first rows.
use Rattle.std.specs.Prelude.{true, ◌&&◌, ℕ, List, [], ◌∷◌, Float}
use Rattle.spatial_floats.specs.declared.pose.Pose.{Pose}
use Rattle.spatial_rows.specs.Step.{step_of, warmstart_of, remove_bias_of}
use Rattle.spatial_rows.specs.Builder.{builder_update_of, seed_of}
use Rattle.spatial_rows.specs.Named.{SameNamed}
use Rattle.spatial_rows.specs.declared.joint_constraint_builder.SolverPose.{SolverPose}
use Rattle.spatial_rows.specs.declared.joint_constraint_builder.ImpulseJoint.{ImpulseJoint}
use Rattle.spatial_rows.specs.declared.joint_velocity_constraint.SolverVel.{SolverVel}
use Rattle.spatial_rows.specs.declared.joint_velocity_constraint.JointConstraint.{JointConstraint}
use Rattle.multibody.specs.Rules.{Rule, rule, all}
use Rattle.multibody.specs.Store.{Store}
use Rattle.multibody.specs.System.{System}
use Rattle.multibody.specs.Refusals.{bodies_present, bodies_apart}
use Rattle.spatial_model.specs.Layout.{row_width, body_width, words_width, numbers_width}
use Rattle.spatial_model.specs.Store.{row_at, put_row, vel_at, put_vel, solver_pose_at, put_pose, joint_at, masks_at, enabled_at, body1_at, body2_at, put_seed}
use Rattle.spatial_model.specs.Refusals.{masks_fit, linear_alone, finite_pose, body_asks, joint_asks}

-- bodies, joints and rows of space
abbrev pub space : Store
space = record {
  linear = 3;
  angular = 3;
  most_rows = 9;
  Pose = Pose;
  SolverPose = SolverPose;
  SolverVel = SolverVel;
  JointConstraint = JointConstraint;
  ImpulseJoint = ImpulseJoint;
  row_width = row_width;
  body_width = body_width;
  words_width = words_width;
  numbers_width = numbers_width;
  row_at = row_at;
  put_row = put_row;
  vel_at = vel_at;
  put_vel = put_vel;
  solver_pose_at = solver_pose_at;
  put_pose = put_pose;
  joint_at = joint_at;
  masks_at = masks_at;
  enabled_at = enabled_at;
  body1_at = body1_at;
  body2_at = body2_at;
  put_seed = put_seed;
  put_first = λ words j k. words;
  builder_update_of = builder_update_of;
  impulse_of = λ r. r.impulse;
  step_of = λ r v1 v2. let t = step_of r v1 v2 in record { row = t.row; vel1 = t.vels.vel1; vel2 = t.vels.vel2; side = t.side };
  warmstart_of = λ r v1 v2. let t = warmstart_of r v1 v2 in record { vel1 = t.vel1; vel2 = t.vel2 };
  remove_bias_of = remove_bias_of;
  seed_of = seed_of;
  SameNamed = SameNamed;
}

-- Rule 17 is tried after 3, whose bound is 63; no rule stands after 6.
abbrev pub spatial : System
spatial = record {
  store = space;
  mask_rules = λ words joints fit. rule 3 (fit && all 0 joints (masks_fit words)) ∷ rule 17 (all 0 joints (linear_alone words)) ∷ [];
  finite_pose = finite_pose;
  body_asks = body_asks;
  joint_asks = λ words j. joint_asks;
  content_rules = λ words numbers joints. [];
  NewMasks = ⊥;
  fit_masks = λ none. true;
  put_masks = λ words j none. words;
  Further = ⊥;
  further_rules = λ none m. [];
  further_numbers = λ none m. m.numbers;
}

-- rules 3, 17, 4 and 5, of the joints
abbrev pub joint_rules : List Float → List ℕ → ℕ → List Rule
joint_rules bodies words joints =
    rule 3 (all 0 joints (masks_fit words))
    ∷ rule 17 (all 0 joints (linear_alone words)) ∷ rule 4 (all 0 joints (bodies_present space bodies words))
    ∷ rule 5 (all 0 joints (bodies_apart space words)) ∷ []
