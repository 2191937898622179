-- `target_velocity` meets its contract: the sign, then one division.
use Rattle.motor_table.proofs.TargetLaws.{target_below, target-above}
use Rattle.motor_table.proofs.target.target_velocity.Goals as goal

pub returns-then-n : goal.returns-then-n
returns-then-n c = target_below c.args.n _ c.nearest_u32_to_f32-size.ensures c.if-n.true

pub returns : goal.returns
returns c = target-above c.args.n _ c.nearest_u32_to_f32-size.ensures c.if-n.false
