use mathlib.Core.Bool.{not}
use mathlib.Core.Path.{ap}
use Rattle.multibody.proofs.RuleLaws.{holds, fails, still-undecided, one-fails, all_pass}
use Rattle.multibody.proofs.refusals.all_finite_joints.Goals as goal

pub returns-then-not-finite_joint : goal.returns-then-not-finite_joint
returns-then-not-finite_joint g c =
    one-fails _ _ _ c.loop-j.invariant c.loop-j-test.true (fails c.finite_joint.ensures (ap not c.if-not-finite_joint.true))

pub loop-j-preserved : goal.loop-j-preserved
loop-j-preserved g c =
    still-undecided _ _ _ c.loop-j.invariant c.loop-j-test.true (holds c.finite_joint.ensures (ap not c.if-not-finite_joint.false))

pub returns : goal.returns
returns g c = all_pass _ _ _ c.loop-j.invariant c.loop-j-test.false
