use mathlib.Core.Bool.{not}
use mathlib.Core.Path.{ap}
use Rattle.multibody.proofs.RuleLaws.{holds, fails, still-undecided, one-fails, all_pass}
use Rattle.model.proofs.refusals.all_masks_fit.Goals as goal

pub returns-then-not-masks_fit : goal.returns-then-not-masks_fit
returns-then-not-masks_fit c =
    one-fails _ _ _ c.loop-j.invariant c.loop-j-test.true (fails c.masks_fit.ensures (ap not c.if-not-masks_fit.true))

pub loop-j-preserved : goal.loop-j-preserved
loop-j-preserved c =
    still-undecided _ _ _ c.loop-j.invariant c.loop-j-test.true (holds c.masks_fit.ensures (ap not c.if-not-masks_fit.false))

pub returns : goal.returns
returns c = all_pass _ _ _ c.loop-j.invariant c.loop-j-test.false
