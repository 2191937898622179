-- `is_limit_outside` meets its contract: each answer is the case that the first test left.
use Rattle.rows.proofs.generic_joint.Masks.is_limit_outside.Goals as goal

pub returns-then-is_limit : goal.returns-then-is_limit
returns-then-is_limit c = rw (← c.is_limit.ensures, c.if-is_limit.true, c.is_coupled.ensures)

pub returns-else-is_limit : goal.returns-else-is_limit
returns-else-is_limit c = rw (← c.is_limit.ensures, c.if-is_limit.false)
