-- `read_joint` meets its contract, by those of its parts.
use mathlib.Core.Path.{sym, ◌∙◌}
use Rattle.multibody.proofs.CountLaws.{joint-words, joint-numbers}
use Rattle.spatial_model.proofs.SingleRecordsLaws.{joint-read, joint-absent}
use Rattle.spatial_model.specs.Spatial.{space}
use Rattle.spatial_model.proofs.single_records.read_joint.Goals as goal

pub joint_at-requires : goal.joint_at-requires
joint_at-requires c =
    let h = rw c.joint_count.ensures at c.if-j-joint_count.true in
    record { words_width_in_bounds = joint-words space _ _ _ h; numbers_width_in_bounds = joint-numbers space _ _ _ h }

pub returns-then-j-joint_count : goal.returns-then-j-joint_count
returns-then-j-joint_count c =
    let h = rw c.joint_count.ensures at c.if-j-joint_count.true in
    c.joint_at.ensures ∙ sym (joint-read _ _ _ (joint-words space _ _ _ h) (joint-numbers space _ _ _ h))

pub returns : goal.returns
returns c =
    c.blank_joint.ensures ∙ sym (joint-absent _ _ _ c.joint_count.ensures c.if-j-joint_count.false)
