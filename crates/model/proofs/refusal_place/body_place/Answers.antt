use mathlib.Core.Bool.{not}
use mathlib.Core.Path.{ap}
use Rattle.multibody.proofs.RuleLaws.{holds, fails}
use Rattle.model.proofs.PlaceSearch.{none_left, test-holds, test-fails}
use Rattle.model.proofs.refusal_place.body_place.Goals as goal

pub returns-then-not-body_passes : goal.returns-then-not-body_passes
returns-then-not-body_passes c =
    test-fails _ _ _ _ _ c.loop-c.invariant c.loop-c-test.true (fails c.body_passes.ensures (ap not c.if-not-body_passes.true))

pub loop-c-preserved : goal.loop-c-preserved
loop-c-preserved c =
    test-holds _ _ _ _ _ c.loop-c.invariant c.loop-c-test.true (holds c.body_passes.ensures (ap not c.if-not-body_passes.false))

pub returns : goal.returns
returns c = none_left _ _ _ _ c.loop-c.invariant c.loop-c-test.false
