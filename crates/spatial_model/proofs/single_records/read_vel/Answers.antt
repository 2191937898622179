-- `read_vel` meets its contract, by those of its parts.
use mathlib.Core.Path.{sym, ◌∙◌}
use Rattle.spatial_model.proofs.SingleRecordsLaws.{body-fits, vel-there, vel-absent}
use Rattle.spatial_model.proofs.single_records.read_vel.Goals as goal

pub vel_at-requires : goal.vel_at-requires
vel_at-requires c ne = body-fits _ _ c.body_count.ensures c.if-i-body_count.true

pub returns-then-i-body_count : goal.returns-then-i-body_count
returns-then-i-body_count c =
    c.vel_at.ensures ∙ sym (vel-there _ _ c.body_count.ensures c.if-i-body_count.true)

pub returns : goal.returns
returns c = sym (vel-absent _ _ c.body_count.ensures c.if-i-body_count.false)
