use mathlib.Core.Bool.{not}
use mathlib.Core.Path.{ap}
use borrow.Author.Tests.{lt-ltb, le-ltb}
use Rattle.model.proofs.PlaceSearch.{none_left, test-holds, test-fails}
use Rattle.model.proofs.refusal_place.mask_place.Goals as goal

pub returns-then-words-o-gt-ALL_AXES : goal.returns-then-words-o-gt-ALL_AXES
returns-then-words-o-gt-ALL_AXES c =
    test-fails _ _ _ _ _ c.loop-c.invariant c.loop-c-test.true (ap not (lt-ltb _ _ c.if-words-o-gt-ALL_AXES.true))

pub loop-c-preserved : goal.loop-c-preserved
loop-c-preserved c =
    test-holds _ _ _ _ _ c.loop-c.invariant c.loop-c-test.true (ap not (le-ltb _ _ c.if-words-o-gt-ALL_AXES.false))

pub returns : goal.returns
returns c = none_left _ _ _ _ c.loop-c.invariant c.loop-c-test.false
