-- `finite_motors` meets its contract: each test is tried where those before it hold.
use mathlib.Core.Path.{sym, ◌∙◌}
use mathlib.Core.Bool.{false≢true}
use Rattle.model.proofs.Tried.{drives-tried}
use Rattle.model.proofs.refusals.finite_motors.Goals as goal
use Rattle.model.proofs.refusals.finite_motors.Goals.{then-finite_motor, else-finite_motor}

pub returns-then-finite_motor-2 : goal.returns-then-finite_motor-2
returns-then-finite_motor-2 c = elim c.if-finite_motor.branch [
  | then-finite_motor w1 ↦ rw (drives-tried, sym w1.if-finite_motor.ensures, sym w1.finite_motor-then-finite_motor.ensures ∙ sym w1.value-is ∙ c.if-finite_motor-2.true) c.finite_motor-then-finite_motor-2.ensures
  | else-finite_motor w1 ↦ absurd (false≢true (sym w1.if-finite_motor.false ∙ sym w1.value-is ∙ c.if-finite_motor-2.true))
]

pub returns-else-finite_motor-2 : goal.returns-else-finite_motor-2
returns-else-finite_motor-2 c = elim c.if-finite_motor.branch [
  | then-finite_motor w1 ↦ rw (drives-tried, sym w1.if-finite_motor.ensures, sym w1.finite_motor-then-finite_motor.ensures ∙ sym w1.value-is ∙ c.if-finite_motor-2.false) c.if-finite_motor-2.false
  | else-finite_motor w1 ↦ rw (drives-tried, sym w1.if-finite_motor.ensures) c.if-finite_motor-2.false
]
