-- `is_step` meets its contract: each test in turn.
use Rattle.std.proofs.Common.{sym, ◌∙◌}
use Rattle.frames.specs.Frames.{is_step}
use Rattle.frames.proofs.frame.is_step.Goals as goal

pub returns-then-is_finite : goal.returns-then-is_finite
unfolding is_step
returns-then-is_finite c = rw (sym c.is_finite.ensures ∙ c.if-is_finite.true)

pub returns-else-is_finite : goal.returns-else-is_finite
unfolding is_step
returns-else-is_finite c = rw (sym c.is_finite.ensures ∙ c.if-is_finite.false) c.if-is_finite.false
