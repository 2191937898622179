-- `finite_place` meets its contract: each setting is tried where those before it are finite.
use mathlib.Core.Bool.{not}
use mathlib.Core.Path.{ap}
use Rattle.multibody.proofs.RuleLaws.{holds, fails}
use Rattle.model.specs.RefusalPlace.{broken}
use Rattle.model.proofs.refusal_place.finite_place.Goals as goal

pub returns-then-not-is_finite : goal.returns-then-not-is_finite
unfolding broken
returns-then-not-is_finite c = rw (fails c.is_finite.ensures (ap not c.if-not-is_finite.true))

pub returns-then-not-is_finite-2 : goal.returns-then-not-is_finite-2
unfolding broken
returns-then-not-is_finite-2 c =
    rw (holds c.is_finite.ensures (ap not c.if-not-is_finite.false), fails c.is_finite-2.ensures (ap not c.if-not-is_finite-2.true))

pub returns-then-not-is_finite-3 : goal.returns-then-not-is_finite-3
unfolding broken
returns-then-not-is_finite-3 c =
    rw (holds c.is_finite.ensures (ap not c.if-not-is_finite.false), holds c.is_finite-2.ensures (ap not c.if-not-is_finite-2.false), fails c.is_finite-3.ensures (ap not c.if-not-is_finite-3.true))

pub returns : goal.returns
unfolding broken
returns c =
    rw (holds c.is_finite.ensures (ap not c.if-not-is_finite.false), holds c.is_finite-2.ensures (ap not c.if-not-is_finite-2.false), holds c.is_finite-3.ensures (ap not c.if-not-is_finite-3.false))
