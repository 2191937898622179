use mathlib.Core.Bool.{not}
use mathlib.Core.Path.{ap}
use Rattle.multibody.proofs.RuleLaws.{holds, fails, still-undecided, one-fails, all_pass}
use Rattle.multibody.proofs.refusals.all_bodies_present.Goals as goal

pub returns-then-not-bodies_present : goal.returns-then-not-bodies_present
returns-then-not-bodies_present g c =
    one-fails _ _ _ c.loop-j.invariant c.loop-j-test.true (fails c.bodies_present.ensures (ap not c.if-not-bodies_present.true))

pub loop-j-preserved : goal.loop-j-preserved
loop-j-preserved g c =
    still-undecided _ _ _ c.loop-j.invariant c.loop-j-test.true (holds c.bodies_present.ensures (ap not c.if-not-bodies_present.false))

pub returns : goal.returns
returns g c = all_pass _ _ _ c.loop-j.invariant c.loop-j-test.false
