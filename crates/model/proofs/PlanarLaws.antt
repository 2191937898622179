-- The planar model has the laws of a multibody system (`planar-laws`), and so demand 3 (`planar-two-studies`).
use Rattle.std.specs.Prelude.{Option, Some, None}
use Prim.Native.Nat.{ℕ, zero, suc, ◌*◌, ◌<◌}
use mathlib.Core.Path.{◌≡◌, refl, sym, ap, ◌∙◌}
use mathlib.Core.Bool.{Bool, true, false}
use mathlib.Core.List.{List}
use native.Mathlib.Nat.{add-zero}
use native.Mathlib.Omega.{arith}
use borrow.Author.Tests.{lt-ltb}
use lib.Dec.{lit≤, lit<}
use lib.ListN.{length, get_or, drop}
use lib.Ieee.{Float, nan}
use Rattle.floats.specs.declared.pose.Pose.{Pose}
use Rattle.rows.specs.RowIds.{row_ids}
use Rattle.rows.specs.Builder.{builder_update_of}
use Rattle.rows.specs.declared.integration_parameters.IntegrationParameters.{IntegrationParameters}
use Rattle.rows.specs.declared.joint_constraint_builder.SolverPose.{SolverPose}
use Rattle.rows.specs.declared.joint_constraint_builder.ImpulseJoint.{ImpulseJoint}
use Rattle.rows.specs.declared.joint_velocity_constraint.JointConstraint.{JointConstraint}
use Rattle.rows.specs.declared.joint_velocity_constraint.WritebackId.{WritebackId}
use Rattle.rows.proofs.BuilderLaws.{first-reads-no-row, cold}
use Rattle.rows.proofs.NamedRows as Rows
use Rattle.rows.proofs.RowArrays.{length-builder_update_of}
use Rattle.rows.proofs.RowIdsCount.{at-most-six}
use Rattle.rows.proofs.WritebackNamed.{Axes, named-written, fewer-named, named-seeds}
use Rattle.motor_table.specs.Tables.{most_records, read_table}
use Rattle.motor_table.proofs.GrantedLaws.{Granted, granted-fit, same-records}
use Rattle.multibody.specs.Rules.{refusal}
use Rattle.multibody.specs.Model.{Model, world}
use Rattle.multibody.specs.Counts as Any
use Rattle.multibody.specs.Refusals.{reads_rows}
use Rattle.multibody.specs.Studies.{TwoStudies}
use Rattle.multibody.proofs.RuleLaws.{Numbered}
use Rattle.multibody.proofs.Strided.{record-past}
use Rattle.multibody.proofs.Laws.{SameJoint, Given, BodyRoom, JointRoom, Laws}
use Rattle.multibody.proofs.CountLaws as AnyCounts
use Rattle.multibody.proofs.TwoStudies as AnyStudies
use Rattle.model.specs.Layout.{row_width}
use Rattle.model.specs.Store.{row_at, put_row, row_numbers, joint_at, masks_at, enabled_at, put_seed, solver_pose_at, put_pose}
use Rattle.model.specs.MotorTargets.{set_records, set_table}
use Rattle.model.specs.Planar.{table_rules, plane, planar}
use Rattle.model.specs.Studies.{planar_calls}
use Rattle.model.proofs.StoreLaws.{with_pose, length-put_row, row_at-put_row, row_at-put_row-other, vel_at-world, solver_pose_at-world, vel_at-put_vel, vel_at-put_vel-other, length-put_pose, solver_pose_at-put_pose, solver_pose_at-put_pose-other, vel_at-put_pose, joint_at-put_seed-other}
use Rattle.model.proofs.PlanarRules.{table-refusal}
use Rattle.model.proofs.WritebackLaws.{joint_at-put_seed-writeback}
use Rattle.model.proofs.MotorTargetLaws.{table_same, records-named}
use Rattle.model.proofs.NewMasks.{put-reworded, masks_at-apart, joint_at-apart, named_put, rule-put, unfit-rule}
use Rattle.model.proofs.FirstRows.{first-reworded, masks_at-first, joint_at-first, mask_rules-first}
use Rattle.model.proofs.Keeps.{put_vel-same, solver_pose_at-same, put_pose-same, center_read, content_rules-same, put_seed-same}

-- ---- joints

joint_at-axes : (words : List ℕ) (n : List Float) (j : ℕ) → Axes (joint_at words n j)
unfolding joint_at
joint_at-axes words n j = record { limits = refl; motors = refl; impulses = refl }

seed-named : {named : WritebackId → Type 0} (words words' : List ℕ) (n n' : List Float) (j : ℕ) (id : WritebackId) (p : Float) → JointRoom plane n j → JointRoom plane n' j
    → SameJoint plane named words n words' n' j → SameJoint plane named words (put_seed n j id p) words' (put_seed n' j id p) j
seed-named {named} words words' n n' j id p room room' s =
    let t = named-written (joint_at words n j) (joint_at words' n' j) id p (joint_at-axes words n j) (joint_at-axes words' n' j) s in
    let r : Rattle.rows.specs.Named.SameNamed named (joint_at words (put_seed n j id p) j) (joint_at words' (put_seed n' j id p) j) =
    rw (joint_at-put_seed-writeback words n j id p room, joint_at-put_seed-writeback words' n' j id p room') t in
    r

masks-same : {named : WritebackId → Type 0} (words words' : List ℕ) (n n' : List Float) (j : ℕ) → SameJoint plane named words n words' n' j → masks_at words j ≡ masks_at words' j
unfolding joint_at masks_at
masks-same words words' n n' j s = s.masks

enabled-same : {named : WritebackId → Type 0} (words words' : List ℕ) (n n' : List Float) (j : ℕ) → SameJoint plane named words n words' n' j → enabled_at words j ≡ enabled_at words' j
unfolding joint_at enabled_at
enabled-same words words' n n' j s = s.enabled

named_self : (named : WritebackId → Type 0) (a : ImpulseJoint) → Rattle.rows.specs.Named.SameNamed named a a
named_self named a = record {
  frame1 = refl;
  frame2 = refl;
  masks = refl;
  softness = refl;
  enabled = refl;
  motor = λ i n. refl;
  limits = λ i n. refl;
  center = λ n. refl;
  dof = λ i n. refl;
}

-- ---- rows

row-past : (s : List Float) (k t : ℕ) (r : JointConstraint) → k < t → drop (t * row_width) (put_row s k r) ≡ drop (t * row_width) s
unfolding put_row
row-past s k t r h = record-past row_width s (row_numbers r) k t (lit≤ tt) h

impulse-read : (s : List Float) (k : ℕ) → (row_at s k).impulse ≡ get_or s (k * row_width) nan
unfolding row_at
impulse-read s k = rw add-zero

update-length : (params : IntegrationParameters) (substep : ℕ) (warm : Option Float) (b1 b2 : SolverPose) (words : List ℕ) (n : List Float) (j : ℕ) (last : List Float)
    → length (builder_update_of params substep warm b1 b2 (joint_at words n j) last) ≡ length (row_ids 2 1 (masks_at words j))
unfolding joint_at masks_at
update-length params substep warm b1 b2 words n j last = length-builder_update_of params substep warm b1 b2 (joint_at words n j) last

no-row-read : (params : IntegrationParameters) (substep : ℕ) (warm : Option Float) (b1 b2 : SolverPose) (a : ImpulseJoint) (last last' : List Float) → reads_rows warm substep ≡ false
    → builder_update_of params substep warm b1 b2 a last ≡ builder_update_of params substep warm b1 b2 a last'
unfolding reads_rows
no-row-read params substep None b1 b2 a last last' e = cold params b1 b2 substep a last ∙ sym (cold params b1 b2 substep a last')
no-row-read params zero (Some c) b1 b2 a last last' e = first-reads-no-row params b1 b2 (Some c) a last last'
no-row-read params (suc substep) (Some c) b1 b2 a last last' e = absurd (mathlib.Core.Bool.true≢false (sym (lt-ltb 0 (suc substep) (omega arith)) ∙ e))

named-rows : (params : IntegrationParameters) (substep : ℕ) (warm : Option Float) (b1 b2 : SolverPose) (words words' : List ℕ) (n n' : List Float) (j : ℕ) (last : List Float)
    → SameJoint plane (Given plane words j) words n words' n' j
    → builder_update_of params substep warm b1 b2 (joint_at words n j) last ≡ builder_update_of params substep warm b1 b2 (joint_at words' n' j) last
unfolding joint_at masks_at
named-rows params substep warm b1 b2 words words' n n' j last s = Rows.same-named params b1 b2 (joint_at words n j) (joint_at words' n' j) s substep warm last

-- ---- bodies

pose-placed : (b b' : List Float) (i : ℕ) (p : Pose) → (i ≡ world → ⊥) → BodyRoom plane b i → BodyRoom plane b' i → solver_pose_at b i ≡ solver_pose_at b' i
    → solver_pose_at (put_pose b i p) i ≡ solver_pose_at (put_pose b' i p) i
pose-placed b b' i p ne room room' e =
    solver_pose_at-put_pose b i p ne room ∙ ap (λ (q : SolverPose). with_pose q p) e ∙ sym (solver_pose_at-put_pose b' i p ne room')

-- ---- tables

module _ (bytes : List ℕ) (m : Model) where
  abbrev joints : ℕ
  joints = Any.joint_count plane m.words m.numbers

  module _ (e : refusal (planar.further_rules bytes m) ≡ 0) where
    table : Granted joints (read_table joints bytes)
    table = granted-fit joints most_records bytes (sym (table-refusal joints bytes) ∙ e)

    table-set : planar.further_numbers bytes m ≡ set_records m.numbers table.records
    unfolding set_table
    table-set = ap (set_table m.numbers) table.holds

named_set : {named : WritebackId → Type 0} (bytes : List ℕ) (m m' : Model) → refusal (planar.further_rules bytes m) ≡ 0 → refusal (planar.further_rules bytes m') ≡ 0
    → (j : ℕ) → j < Any.joint_count plane m.words m.numbers → j < Any.joint_count plane m'.words m'.numbers
    → SameJoint plane named m.words m.numbers m'.words m'.numbers j → SameJoint plane named m.words (planar.further_numbers bytes m) m'.words (planar.further_numbers bytes m') j
named_set {named} bytes m m' z z' j l l' s =
    let g = table bytes m z in
    let g' = table bytes m' z' in
    let same = same-records _ _ most_records bytes g.records g'.records g.holds g'.holds in
    let r : Rattle.rows.specs.Named.SameNamed named (joint_at m.words (set_records m.numbers g.records) j) (joint_at m'.words (set_records m'.numbers g.records) j) =
    records-named named m.words m'.words j _ g.records g.fit m.numbers m'.numbers (AnyCounts.joint-numbers plane m.words m.numbers j l)
    (AnyCounts.joint-numbers plane m'.words m'.numbers j l') s in
    let q : Rattle.rows.specs.Named.SameNamed named (joint_at m.words (planar.further_numbers bytes m) j) (joint_at m'.words (planar.further_numbers bytes m') j) =
    rw (table-set bytes m z, table-set bytes m' z', ← same) r in
    q

table-numbered : (bytes : List ℕ) (m : Model) → Numbered (planar.further_rules bytes m)
unfolding table_rules
table-numbered bytes m = (omega arith, (omega arith, (omega arith, tt)))

-- ---- the laws

pub planar-laws : Laws planar
planar-laws = record {
  row-wide = lit< tt;
  body-wide = lit< tt;
  words-wide = lit< tt;
  numbers-wide = lit< tt;
  body-asks = refl;
  joint-asks = λ words j. refl;
  length-put_row = length-put_row;
  row_at-put_row = row_at-put_row;
  row_at-put_row-other = row_at-put_row-other;
  put_row-past = row-past;
  impulse-first = impulse-read;
  vel_at-world = λ b b'. vel_at-world b ∙ sym (vel_at-world b');
  solver_pose_at-world = λ b b'. solver_pose_at-world b ∙ sym (solver_pose_at-world b');
  put_vel-same = put_vel-same;
  solver_pose_at-same = solver_pose_at-same;
  put_pose-same = put_pose-same;
  vel_at-put_vel = vel_at-put_vel;
  vel_at-put_vel-other = vel_at-put_vel-other;
  length-put_pose = length-put_pose;
  solver_pose_at-put_pose = pose-placed;
  solver_pose_at-put_pose-other = solver_pose_at-put_pose-other;
  vel_at-put_pose = vel_at-put_pose;
  content_reads = center_read;
  content_rules-same = λ words s. content_rules-same s words;
  put_seed-same = put_seed-same;
  joint_at-put_seed-other = joint_at-put_seed-other;
  named-put_seed = seed-named;
  same-masks = masks-same;
  same-enabled = enabled-same;
  named_self = named_self;
  fewer-named = fewer-named;
  named-seeds = named-seeds;
  put_first-reworded = first-reworded;
  masks_at-put_first = masks_at-first;
  joint_at-put_first = joint_at-first;
  mask_rules-put_first = mask_rules-first;
  put_masks-reworded = put-reworded;
  masks_at-put_masks-other = λ w j i ms n. masks_at-apart w j ms i n;
  joint_at-put_masks-other = joint_at-apart;
  named-put_masks = named_put;
  mask_rules-put_masks = rule-put;
  few-ids = λ words j. at-most-six (masks_at words j);
  length-update = update-length;
  reads-no-row = no-row-read;
  same-named = named-rows;
  mask-numbered = λ words joints fit. (omega arith, tt);
  own-masks = unfit-rule;
  content-numbered = λ words n joints. (omega arith, tt);
  further-numbered = table-numbered;
  further_same = λ bytes m. table_same (joints bytes m) bytes m.numbers;
  further-equal = λ bytes m m' e. ap (λ joints. refusal (table_rules joints bytes)) e;
  further-named = named_set;
}

pub planar-two-studies : TwoStudies planar_calls
planar-two-studies = AnyStudies.two-studies planar-laws planar_calls (AnyStudies.model-comparable planar-laws)
