-- The planar model as a kind of multibody system: its store, two linear axes and one angular, and over it its rules and calls. Beside document 01's calls it has motor tables (document 02, R-6).
use Rattle.std.specs.Prelude.{ℕ, List, [], ◌∷◌, not, ◌&&◌, eqb, Float}
use Rattle.floats.specs.declared.pose.Pose.{Pose}
use Rattle.rows.specs.Step.{step_of, warmstart_of, remove_bias_of}
use Rattle.rows.specs.Builder.{builder_update_of, seed_of}
use Rattle.rows.specs.Named.{SameNamed}
use Rattle.rows.specs.declared.generic_joint.Masks.{Masks}
use Rattle.rows.specs.declared.joint_constraint_builder.SolverPose.{SolverPose}
use Rattle.rows.specs.declared.joint_constraint_builder.ImpulseJoint.{ImpulseJoint}
use Rattle.rows.specs.declared.joint_velocity_constraint.SolverVel.{SolverVel}
use Rattle.rows.specs.declared.joint_velocity_constraint.JointConstraint.{JointConstraint}
use Rattle.motor_table.specs.Tables.{table_refusal, read_table}
use Rattle.multibody.specs.Rules.{Rule, rule, all}
use Rattle.multibody.specs.Store.{Store}
use Rattle.multibody.specs.System.{System}
use Rattle.multibody.specs.Counts.{joint_count}
use Rattle.multibody.specs.Refusals.{bodies_present, bodies_apart}
use Rattle.model.specs.Layout.{row_width, body_width, words_width, center_choice_place, numbers_width}
use Rattle.model.specs.Records.{word}
use Rattle.model.specs.Store.{row_at, put_row, vel_at, put_vel, solver_pose_at, put_pose, joint_at, masks_at, enabled_at, body1_at, body2_at, put_seed, put_first, put_masks}
use Rattle.model.specs.Refusals.{masks_fit, new_masks_fit, finite_pose, body_asks, joint_asks, center_fits}
use Rattle.model.specs.MotorTargets.{set_table}

-- Rules 13 to 15, of the bytes of a table for so many joints. The first faulty record decides, so at most one of them fails: that of the number with which the table is refused.
abbrev pub fault_rule : ℕ → ℕ → Rule
fault_rule k fault = rule k (not (eqb fault k))

unfoldable pub table_rules : ℕ → List ℕ → List Rule
table_rules joints bytes =
    let fault = table_refusal (read_table joints bytes) in
    fault_rule 13 fault ∷ fault_rule 14 fault ∷ fault_rule 15 fault ∷ []

-- bodies, joints and rows of the plane
abbrev pub plane : Store
plane = record {
  linear = 2;
  angular = 1;
  most_rows = 6;
  Pose = Pose;
  SolverPose = SolverPose;
  SolverVel = SolverVel;
  JointConstraint = JointConstraint;
  ImpulseJoint = ImpulseJoint;
  row_width = row_width;
  body_width = body_width;
  words_width = words_width;
  numbers_width = numbers_width;
  row_at = row_at;
  put_row = put_row;
  vel_at = vel_at;
  put_vel = put_vel;
  solver_pose_at = solver_pose_at;
  put_pose = put_pose;
  joint_at = joint_at;
  masks_at = masks_at;
  enabled_at = enabled_at;
  body1_at = body1_at;
  body2_at = body2_at;
  put_seed = put_seed;
  put_first = put_first;
  builder_update_of = builder_update_of;
  impulse_of = λ r. r.impulse;
  step_of = λ r v1 v2. let t = step_of r v1 v2 in record { row = t.row; vel1 = t.vels.vel1; vel2 = t.vels.vel2; side = t.side };
  warmstart_of = λ r v1 v2. let t = warmstart_of r v1 v2 in record { vel1 = t.vel1; vel2 = t.vel2 };
  remove_bias_of = remove_bias_of;
  seed_of = seed_of;
  SameNamed = SameNamed;
}

abbrev pub planar : System
planar = record {
  store = plane;
  mask_rules = λ words joints fit. rule 3 (fit && all 0 joints (masks_fit words)) ∷ [];
  finite_pose = finite_pose;
  body_asks = body_asks;
  joint_asks = λ words j. joint_asks (word words_width words j center_choice_place);
  content_rules = λ words numbers joints. rule 12 (all 0 joints (center_fits words numbers)) ∷ [];
  NewMasks = Masks;
  fit_masks = new_masks_fit;
  put_masks = put_masks;
  Further = List ℕ;
  further_rules = λ bytes m. table_rules (joint_count plane m.words m.numbers) bytes;
  further_numbers = λ bytes m. set_table m.numbers (read_table (joint_count plane m.words m.numbers) bytes);
}

-- rules 3 to 5, of the joints
abbrev pub joint_rules : List Float → List ℕ → ℕ → List Rule
joint_rules bodies words joints =
    rule 3 (all 0 joints (masks_fit words)) ∷ rule 4 (all 0 joints (bodies_present plane bodies words)) ∷ rule 5 (all 0 joints (bodies_apart plane words)) ∷ []
