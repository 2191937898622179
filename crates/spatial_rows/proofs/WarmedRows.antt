-- The rows that the builder's `update` makes in space, as the crate rows has it of any kind of row: what its loop builds (`building`), before the first turn (`start-start`), and what the
-- code returns (`started-rows`). Assumes nothing.
use Rattle.std.specs.Prelude.{Option}
use Prim.Native.Nat.{ℕ}
use native.Mathlib.Omega.{arith}
use mathlib.Core.Path.{◌≡◌, refl, ap, sym, ◌∙◌}
use mathlib.Core.List.{List, ◌++◌, map}
use lib.ListN.{length, replicate}
use lib.Ieee.{Float}
use Rattle.rows.specs.RowIds.{group_one, group_two, row_ids, filled}
use Rattle.rows.specs.Groups as Groups
use Rattle.rows.specs.declared.integration_parameters.IntegrationParameters.{IntegrationParameters}
use Rattle.rows.specs.declared.joint_velocity_constraint.WritebackId.{WritebackId}
use Rattle.rows.proofs.WarmedFinalize.{ImpulseUnread}
use Rattle.rows.proofs.WarmedRows.{Build, Starting, started-array}
use Rattle.spatial_rows.specs.SpatialMasks.{spatial_masks}
use Rattle.spatial_rows.specs.Row.{with_impulse}
use Rattle.spatial_rows.specs.RowSlots.{slot_id, slot_bits}
use Rattle.spatial_rows.specs.Finalize.{im_sum_of, row_dot_of, head_of, is_lock, less_of, row_group, finalize_of, finalize_groups}
use Rattle.spatial_rows.specs.Update.{context_of, row_of, update_of, blank_row, rows_array}
use Rattle.spatial_rows.specs.Builder.{joint_context_of, seed_of, warmed_all, builder_update_of}
use Rattle.spatial_rows.specs.declared.joint_constraint_builder.SolverPose.{SolverPose}
use Rattle.spatial_rows.specs.declared.joint_constraint_builder.ImpulseJoint.{ImpulseJoint}
use Rattle.spatial_rows.specs.declared.joint_velocity_constraint.JointConstraint.{JointConstraint}
use Rattle.spatial_rows.specs.declared.joint_velocity_constraint.RowContext.{RowContext}
use Rattle.spatial_rows.specs.declared.joint_velocity_constraint.Rows.{Rows}
use Rattle.spatial_rows.proofs.NineRows.{at-most-nine}
use Rattle.spatial_rows.proofs.RowSlotsLaws.{slot_bits-lt, slot-ids}

-- orthogonalising reads and changes no impulse
pub unread : ImpulseUnread row_group with_impulse
unfolding im_sum_of head_of row_dot_of is_lock less_of Groups.reduce_of with_impulse
unread = record { sum = λ c x. refl; head = λ im c x. refl; lock = λ c x. refl; by = λ im c x. refl; pair = λ im d c x. refl }

-- the loop of the builder's `update`
abbrev pub building : Option Float → ℕ → ImpulseJoint → RowContext → List Float → Build JointConstraint
building warm substep joint cx prevs = record {
  with_impulse = with_impulse;
  blank = blank_row;
  row = row_of cx;
  warm = warm;
  substep = substep;
  seed = seed_of joint;
  prevs = prevs;
  most = 9;
  slots = 12;
  slot = slot_id;
  ids = row_ids 3 3 (spatial_masks joint.«data».masks);
}

-- the joint that the context holds
pub context-joint : (params : IntegrationParameters) (body1 body2 : SolverPose) (joint : ImpulseJoint) → (joint_context_of params body1 body2 joint).joint ≡ joint.«data»
unfolding joint_context_of context_of
context-joint params body1 body2 joint = refl

-- before the first turn
pub start-start : (warm : Option Float) (substep : ℕ) (joint : ImpulseJoint) (cx : RowContext) (prevs : List Float) → length prevs ≡ 9
    → Starting (building warm substep joint cx prevs) (replicate 9 blank_row) (slot_bits joint.«data».masks) 0
start-start warm substep joint cx prevs nine = record {
  reached = omega arith;
  few = at-most-nine joint.«data».masks;
  narrow = omega arith;
  slots-left = slot_bits-lt joint.«data».masks;
  ids-left = slot-ids joint.«data».masks;
  all-prevs = nine;
  all-rows = refl;
  so_far = refl;
}

-- what the code returns
pub started-rows : (params : IntegrationParameters) (substep : ℕ) (warm : Option Float) (body1 body2 : SolverPose) (joint : ImpulseJoint) (prevs : List Float)
    {first len : ℕ} {cx : RowContext} {rows : List JointConstraint} → length prevs ≡ 9
    → first ≡ length (group_one 3 3 (spatial_masks joint.«data».masks)) → len ≡ length (row_ids 3 3 (spatial_masks joint.«data».masks)) → cx ≡ joint_context_of params body1 body2 joint
    → rows ≡ finalize_groups first len (filled 9 blank_row (warmed_all warm substep joint (row_ids 3 3 (spatial_masks joint.«data».masks)) prevs (map (row_of cx) (row_ids 3 3 (spatial_masks joint.«data».masks)))))
    → ◌≡◌ {A = Rows} (record { rows = rows; len = len }) (rows_array (builder_update_of params substep warm body1 body2 joint prevs))
unfolding row_ids rows_array builder_update_of update_of
started-rows params substep warm body1 body2 joint prevs {first} {len} {cx} {rows} nine ef el x g =
    let l : List WritebackId = group_one 3 3 (spatial_masks joint.«data».masks) in
    let r : List WritebackId = group_two 3 3 (spatial_masks joint.«data».masks) in
    let cx' : RowContext = joint_context_of params body1 body2 joint in
    let updated : update_of cx' ≡ finalize_of (map (row_of cx') l) ++ finalize_of (map (row_of cx') r) = rw context-joint in
    let all : List JointConstraint → List JointConstraint = warmed_all warm substep joint (l ++ r) prevs in
    let made = started-array row_group with_impulse unread warm substep (seed_of joint) (row_of cx') blank_row 9 prevs l r nine (at-most-nine joint.«data».masks) ef el (g ∙ rw x) in
    let whole : rows ≡ filled 9 blank_row (all (update_of cx')) = made.0 ∙ ap (λ t. filled 9 blank_row (all t)) (sym updated) in
    let count : len ≡ length (all (update_of cx')) = made.1 ∙ ap (λ t. length (all t)) (sym updated) in
    λ i. record { rows = whole i; len = count i }
