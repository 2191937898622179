-- The spatial model has the laws of a multibody system (`spatial-laws`), and so demand 1 (`spatial-refused-exactly`) and demand 3 (`spatial-two-studies`).
use Rattle.std.specs.Prelude.{Option, Some, None}
use Prim.Native.Nat.{ℕ, zero, suc, ◌≤◌}
use mathlib.Core.Path.{◌≡◌, refl, sym, ap, ◌∙◌}
use mathlib.Core.Bool.{false, true≢false}
use mathlib.Core.List.{List}
use native.Mathlib.Omega.{arith}
use borrow.Author.Tests.{lt-ltb}
use lib.Dec.{lit<}
use lib.ListN.{length}
use lib.Ieee.{Float}
use Rattle.rows.specs.RowIds.{row_ids}
use Rattle.rows.specs.declared.integration_parameters.IntegrationParameters.{IntegrationParameters}
use Rattle.rows.specs.declared.joint_velocity_constraint.WritebackId.{WritebackId}
use Rattle.spatial_floats.specs.declared.pose.Pose.{Pose}
use Rattle.spatial_rows.specs.Builder.{builder_update_of}
use Rattle.spatial_rows.specs.Named.{SameNamed}
use Rattle.spatial_rows.specs.declared.joint_constraint_builder.SolverPose.{SolverPose}
use Rattle.spatial_rows.specs.declared.joint_constraint_builder.ImpulseJoint.{ImpulseJoint}
use Rattle.spatial_rows.proofs.NineRows.{at-most-nine}
use Rattle.spatial_rows.proofs.BuilderLaws.{first-reads-no-row, cold}
use Rattle.spatial_rows.proofs.RowArrays.{length-builder_update_of}
use Rattle.spatial_rows.proofs.NamedRows.{same-named}
use Rattle.spatial_rows.proofs.WritebackNamed.{Axes, named-written, named_self, fewer-named, named-seeds}
use Rattle.multibody.specs.Rules.{refusal}
use Rattle.multibody.specs.Records.{word}
use Rattle.multibody.specs.JointRecords.{masks_of}
use Rattle.multibody.specs.Model.{Model, world}
use Rattle.multibody.specs.Refusals.{reads_rows}
use Rattle.multibody.specs.Calls.{Call, rules_of, run}
use Rattle.multibody.specs.Calls.Answer.{refused}
use Rattle.multibody.specs.Studies.{TwoStudies}
use Rattle.multibody.proofs.Laws.{SameJoint, Given, BodyRoom, JointRoom, Reworded, Laws}
use Rattle.multibody.proofs.RuleLaws.{First}
use Rattle.multibody.proofs.RefusedExactly.{refused-exactly}
use Rattle.multibody.proofs.TwoStudies as AnyStudies
use Rattle.spatial_model.specs.Layout.{words_width, masks_place}
use Rattle.spatial_model.specs.Store.{joint_at, masks_at, enabled_at, put_seed, solver_pose_at, put_pose}
use Rattle.spatial_model.specs.Spatial.{space, spatial}
use Rattle.spatial_model.specs.Studies.{spatial_calls}
use Rattle.spatial_model.proofs.StoreLaws.{with_pose, impulse-first, length-put_row, row_at-put_row, row_at-put_row-other, put_row-past, vel_at-world, solver_pose_at-world, vel_at-put_vel, vel_at-put_vel-other, length-put_pose, solver_pose_at-put_pose, solver_pose_at-put_pose-other, vel_at-put_pose, joint_at-put_seed-other}
use Rattle.spatial_model.proofs.WritebackLaws.{joint_at-put_seed-writeback}
use Rattle.spatial_model.proofs.MaskLaws.{masks_at-spatial}
use Rattle.spatial_model.proofs.Keeps.{put_vel-same, solver_pose_at-same, put_pose-same, put_seed-same}

-- ---- joints

joint_at-axes : (words : List ℕ) (n : List Float) (j : ℕ) → Axes (joint_at words n j)
unfolding joint_at
joint_at-axes words n j = record { limits = refl; motors = refl; impulses = refl }

seed-named : {named : WritebackId → Type 0} (words words' : List ℕ) (n n' : List Float) (j : ℕ) (id : WritebackId) (p : Float) → JointRoom space n j → JointRoom space n' j
    → SameJoint space named words n words' n' j → SameJoint space named words (put_seed n j id p) words' (put_seed n' j id p) j
seed-named {named} words words' n n' j id p room room' s =
    let t = named-written (joint_at words n j) (joint_at words' n' j) id p (joint_at-axes words n j) (joint_at-axes words' n' j) s in
    let r : SameNamed named (joint_at words (put_seed n j id p) j) (joint_at words' (put_seed n' j id p) j) =
    rw (joint_at-put_seed-writeback words n j id p room, joint_at-put_seed-writeback words' n' j id p room') t in
    r

masks-same : {named : WritebackId → Type 0} (words words' : List ℕ) (n n' : List Float) (j : ℕ) → SameJoint space named words n words' n' j → masks_at words j ≡ masks_at words' j
unfolding joint_at masks_at
masks-same words words' n n' j s = s.masks

enabled-same : {named : WritebackId → Type 0} (words words' : List ℕ) (n n' : List Float) (j : ℕ) → SameJoint space named words n words' n' j → enabled_at words j ≡ enabled_at words' j
unfolding joint_at enabled_at
enabled-same words words' n n' j s = s.enabled

-- the words stay as they are
same-words : (w : List ℕ) → Reworded spatial w w
same-words w = record { size = refl; body1 = λ i. refl; body2 = λ i. refl; enabled = λ i. refl; asks = λ i. refl; contents = λ n joints. refl }

-- ---- rows

few : (words : List ℕ) (j : ℕ) → length (row_ids 3 3 (masks_at words j)) ≤ 9
unfolding masks_at
few words j = at-most-nine (masks_of (word words_width words j) masks_place)

update-length : (params : IntegrationParameters) (substep : ℕ) (warm : Option Float) (b1 b2 : SolverPose) (words : List ℕ) (n : List Float) (j : ℕ) (last : List Float)
    → length (builder_update_of params substep warm b1 b2 (joint_at words n j) last) ≡ length (row_ids 3 3 (masks_at words j))
unfolding joint_at masks_at
update-length params substep warm b1 b2 words n j last = length-builder_update_of params substep warm b1 b2 (joint_at words n j) last ∙ ap (λ k. length (row_ids 3 3 k)) (masks_at-spatial words j)

no-row-read : (params : IntegrationParameters) (substep : ℕ) (warm : Option Float) (b1 b2 : SolverPose) (a : ImpulseJoint) (last last' : List Float) → reads_rows warm substep ≡ false
    → builder_update_of params substep warm b1 b2 a last ≡ builder_update_of params substep warm b1 b2 a last'
unfolding reads_rows
no-row-read params substep None b1 b2 a last last' e = cold params b1 b2 substep a last ∙ sym (cold params b1 b2 substep a last')
no-row-read params zero (Some c) b1 b2 a last last' e = first-reads-no-row params b1 b2 (Some c) a last last'
no-row-read params (suc substep) (Some c) b1 b2 a last last' e = absurd (true≢false (sym (lt-ltb 0 (suc substep) (omega arith)) ∙ e))

-- the masks that a joint names by are those that it is read with
named-rows : (params : IntegrationParameters) (substep : ℕ) (warm : Option Float) (b1 b2 : SolverPose) (words words' : List ℕ) (n n' : List Float) (j : ℕ) (last : List Float)
    → SameJoint space (Given space words j) words n words' n' j
    → builder_update_of params substep warm b1 b2 (joint_at words n j) last ≡ builder_update_of params substep warm b1 b2 (joint_at words' n' j) last
unfolding joint_at masks_at
named-rows params substep warm b1 b2 words words' n n' j last s =
    same-named params b1 b2 (joint_at words n j) (joint_at words' n' j)
    (fewer-named (joint_at words n j) (joint_at words' n' j) (λ id g. rw (masks_at-spatial words j) at g) s) substep warm last

-- ---- bodies

pose-placed : (b b' : List Float) (i : ℕ) (p : Pose) → (i ≡ world → ⊥) → BodyRoom space b i → BodyRoom space b' i → solver_pose_at b i ≡ solver_pose_at b' i
    → solver_pose_at (put_pose b i p) i ≡ solver_pose_at (put_pose b' i p) i
pose-placed b b' i p ne room room' e =
    solver_pose_at-put_pose b i p ne room ∙ ap (λ (q : SolverPose). with_pose q p) e ∙ sym (solver_pose_at-put_pose b' i p ne room')

-- ---- rule 3

unfit : (words : List ℕ) (joints : ℕ) → refusal (spatial.mask_rules words joints false) ≡ 3
unfolding refusal
unfit words joints = refl

-- ---- the laws

pub spatial-laws : Laws spatial
spatial-laws = record {
  row-wide = lit< tt;
  body-wide = lit< tt;
  words-wide = lit< tt;
  numbers-wide = lit< tt;
  body-asks = refl;
  joint-asks = λ words j. refl;
  length-put_row = length-put_row;
  row_at-put_row = row_at-put_row;
  row_at-put_row-other = row_at-put_row-other;
  put_row-past = put_row-past;
  impulse-first = impulse-first;
  vel_at-world = λ b b'. vel_at-world b ∙ sym (vel_at-world b');
  solver_pose_at-world = λ b b'. solver_pose_at-world b ∙ sym (solver_pose_at-world b');
  put_vel-same = put_vel-same;
  solver_pose_at-same = solver_pose_at-same;
  put_pose-same = put_pose-same;
  vel_at-put_vel = vel_at-put_vel;
  vel_at-put_vel-other = vel_at-put_vel-other;
  length-put_pose = length-put_pose;
  solver_pose_at-put_pose = pose-placed;
  solver_pose_at-put_pose-other = solver_pose_at-put_pose-other;
  vel_at-put_pose = vel_at-put_pose;
  content_reads = λ c. false;
  content_rules-same = λ words s joints. refl;
  put_seed-same = put_seed-same;
  joint_at-put_seed-other = joint_at-put_seed-other;
  named-put_seed = seed-named;
  same-masks = masks-same;
  same-enabled = enabled-same;
  named_self = named_self;
  fewer-named = fewer-named;
  named-seeds = named-seeds;
  put_first-reworded = λ w j k. same-words w;
  masks_at-put_first = λ w j k i. refl;
  joint_at-put_first = λ w n j k i. refl;
  mask_rules-put_first = λ w j k joints. refl;
  put_masks-reworded = λ w j none. same-words w;
  masks_at-put_masks-other = λ w j i none ne. refl;
  joint_at-put_masks-other = λ w n j i none ne. refl;
  named-put_masks = λ w w' n n' j none room room' s. s;
  mask_rules-put_masks = λ w j joints none fit room hold. hold;
  few-ids = few;
  length-update = update-length;
  reads-no-row = no-row-read;
  same-named = named-rows;
  mask-numbered = λ words joints fit. (omega arith, (omega arith, tt));
  own-masks = unfit;
  content-numbered = λ words n joints. tt;
  further-numbered = λ none m. absurd none;
  further_same = λ none m. absurd none;
  further-equal = λ none m m' e. absurd none;
  further-named = λ none m m'. absurd none;
}

-- demand 1: a call is refused with k exactly if the rule of number k fails and every rule before it holds
pub spatial-refused-exactly : (c : Call spatial) (m : Model) (rows : List Float) (k : ℕ) → (run spatial c m rows).answer ≡ refused k → First k (rules_of spatial c m rows)
spatial-refused-exactly = refused-exactly spatial-laws

-- demand 3
pub spatial-two-studies : TwoStudies spatial_calls
spatial-two-studies = AnyStudies.two-studies spatial-laws spatial_calls (AnyStudies.model-comparable spatial-laws)
