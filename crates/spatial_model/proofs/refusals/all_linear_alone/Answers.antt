use mathlib.Core.Bool.{not}
use mathlib.Core.Path.{ap}
use Rattle.multibody.proofs.RuleLaws.{holds, fails, still-undecided, one-fails, all_pass}
use Rattle.spatial_model.proofs.refusals.all_linear_alone.Goals as goal

pub returns-then-not-linear_alone : goal.returns-then-not-linear_alone
returns-then-not-linear_alone c =
    one-fails _ _ _ c.loop-j.invariant c.loop-j-test.true (fails c.linear_alone.ensures (ap not c.if-not-linear_alone.true))

pub loop-j-preserved : goal.loop-j-preserved
loop-j-preserved c =
    still-undecided _ _ _ c.loop-j.invariant c.loop-j-test.true (holds c.linear_alone.ensures (ap not c.if-not-linear_alone.false))

pub returns : goal.returns
returns c = all_pass _ _ _ c.loop-j.invariant c.loop-j-test.false
