-- `bodies_present` meets its contract: the first body is tried first.
use mathlib.Core.Path.{sym, ◌∙◌}
use Rattle.multibody.specs.Refusals.{bodies_present}
use Rattle.multibody.proofs.refusals.bodies_present.Goals as goal

pub returns-then-present_or_world : goal.returns-then-present_or_world
unfolding bodies_present
returns-then-present_or_world g c =
    rw (← c.body1_at.ensures, ← c.body2_at.ensures, sym c.present_or_world.ensures ∙ c.if-present_or_world.true) c.present_or_world-then-present_or_world.ensures

pub returns-else-present_or_world : goal.returns-else-present_or_world
unfolding bodies_present
returns-else-present_or_world g c = rw (← c.body1_at.ensures, sym c.present_or_world.ensures ∙ c.if-present_or_world.false) c.if-present_or_world.false
