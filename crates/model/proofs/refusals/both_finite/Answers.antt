-- `both_finite` meets its contract: each test is tried where those before it hold.
use mathlib.Core.Path.{sym, ◌∙◌}
use Rattle.model.proofs.refusals.both_finite.Goals as goal

pub returns-then-is_finite : goal.returns-then-is_finite
returns-then-is_finite c = rw (sym c.is_finite.ensures ∙ c.if-is_finite.true) c.is_finite-then-is_finite.ensures

pub returns-else-is_finite : goal.returns-else-is_finite
returns-else-is_finite c = rw (sym c.is_finite.ensures ∙ c.if-is_finite.false) c.if-is_finite.false
