-- `present_place` meets its contract: the first body is tried first.
use mathlib.Core.Bool.{not}
use mathlib.Core.Path.{ap}
use Rattle.multibody.proofs.RuleLaws.{holds, fails}
use Rattle.model.specs.RefusalPlace.{broken}
use Rattle.model.proofs.refusal_place.present_place.Goals as goal

pub returns-then-not-present_or_world : goal.returns-then-not-present_or_world
unfolding broken
returns-then-not-present_or_world c = rw (← c.body1_at.ensures, fails c.present_or_world.ensures (ap not c.if-not-present_or_world.true))

pub returns-then-not-present_or_world-2 : goal.returns-then-not-present_or_world-2
unfolding broken
returns-then-not-present_or_world-2 c =
    rw (← c.body1_at.ensures, ← c.body2_at.ensures, holds c.present_or_world.ensures (ap not c.if-not-present_or_world.false), fails c.present_or_world-2.ensures (ap not c.if-not-present_or_world-2.true))

pub returns : goal.returns
unfolding broken
returns c =
    rw (← c.body1_at.ensures, ← c.body2_at.ensures, holds c.present_or_world.ensures (ap not c.if-not-present_or_world.false), holds c.present_or_world-2.ensures (ap not c.if-not-present_or_world-2.false))
