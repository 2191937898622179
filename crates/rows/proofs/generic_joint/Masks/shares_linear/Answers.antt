-- `shares_linear` meets its contract: each answer is the case that the first test left.
use mathlib.Core.Path.{◌≡◌, refl}
use mathlib.Core.Bool.{Bool, true, false, ◌||◌}
use Rattle.rows.proofs.generic_joint.Masks.shares_linear.Goals as goal

or-false : (b : Bool) → b ≡ (b || false)
or-false true = refl
or-false false = refl

pub returns-then-is_coupled_motor : goal.returns-then-is_coupled_motor
returns-then-is_coupled_motor c = rw (← c.is_coupled_motor.ensures, c.if-is_coupled_motor.true)

pub returns-else-is_coupled_motor : goal.returns-else-is_coupled_motor
returns-else-is_coupled_motor c = rw (← c.is_coupled_motor.ensures, c.if-is_coupled_motor.false, ← c.is_coupled_motor-else-is_coupled_motor.ensures) (or-false c.is_coupled_motor-else-is_coupled_motor.result)
