-- `write_pose` meets its contract, by those of its parts.
use mathlib.Core.Path.{sym, ◌∙◌}
use Rattle.spatial_model.proofs.SingleRecordsLaws.{body-fits, put-pose-there, put-pose-absent}
use Rattle.spatial_model.proofs.single_records.write_pose.Goals as goal

pub put_pose-requires : goal.put_pose-requires
put_pose-requires c = body-fits _ _ c.body_count.ensures c.if-i-body_count.true

pub returns-then-i-body_count : goal.returns-then-i-body_count
returns-then-i-body_count c =
    c.put_pose.ensures ∙ sym (put-pose-there _ _ _ (body-fits _ _ c.body_count.ensures c.if-i-body_count.true))

pub returns-else-i-body_count : goal.returns-else-i-body_count
returns-else-i-body_count c = sym (put-pose-absent _ _ _ c.body_count.ensures c.if-i-body_count.false)
