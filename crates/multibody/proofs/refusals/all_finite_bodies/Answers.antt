use mathlib.Core.Bool.{not}
use mathlib.Core.Path.{ap}
use Rattle.multibody.proofs.RuleLaws.{holds, fails, still-undecided, one-fails, all_pass}
use Rattle.multibody.proofs.refusals.all_finite_bodies.Goals as goal

pub returns-then-not-finite_body : goal.returns-then-not-finite_body
returns-then-not-finite_body g c =
    one-fails _ _ _ c.loop-i.invariant c.loop-i-test.true (fails c.finite_body.ensures (ap not c.if-not-finite_body.true))

pub loop-i-preserved : goal.loop-i-preserved
loop-i-preserved g c =
    still-undecided _ _ _ c.loop-i.invariant c.loop-i-test.true (holds c.finite_body.ensures (ap not c.if-not-finite_body.false))

pub returns : goal.returns
returns g c = all_pass _ _ _ c.loop-i.invariant c.loop-i-test.false
