-- `finite_motor` meets its contract: each test is tried where those before it hold.
use mathlib.Core.Path.{sym, ◌∙◌}
use Rattle.multibody.proofs.AskLaws.{motor-tried}
use Rattle.multibody.proofs.refusals.finite_motor.Goals as goal

pub returns-then-finite_from : goal.returns-then-finite_from
returns-then-finite_from c = rw (motor-tried, sym c.finite_from.ensures ∙ c.if-finite_from.true) c.no_nan_from.ensures

pub returns-else-finite_from : goal.returns-else-finite_from
returns-else-finite_from c = rw (motor-tried, sym c.finite_from.ensures ∙ c.if-finite_from.false) c.if-finite_from.false
