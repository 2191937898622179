-- `is_coupled_motor` meets its contract: each answer is the case that the first test left.
use Rattle.rows.proofs.generic_joint.Masks.is_coupled_motor.Goals as goal

pub returns-then-is_motor : goal.returns-then-is_motor
returns-then-is_motor c = rw (← c.is_motor.ensures, c.if-is_motor.true, c.is_coupled.ensures)

pub returns-else-is_motor : goal.returns-else-is_motor
returns-else-is_motor c = rw (← c.is_motor.ensures, c.if-is_motor.false)
