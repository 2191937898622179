-- `is_limit` meets its contract: each answer is the case that the first mask left.
use Rattle.rows.proofs.generic_joint.Masks.is_limit.Goals as goal

pub returns-then-has_axis : goal.returns-then-has_axis
returns-then-has_axis c = rw (← c.has_axis.ensures, c.if-has_axis.true, c.has_axis-then-has_axis.ensures)

pub returns-else-has_axis : goal.returns-else-has_axis
returns-else-has_axis c = rw (← c.has_axis.ensures, c.if-has_axis.false)
