use mathlib.Core.Bool.{not}
use mathlib.Core.Path.{ap, ◌∙◌}
use Rattle.model.specs.Refusals.{angle_fits, center_fits}
use Rattle.multibody.proofs.RuleLaws.{holds, fails, still-undecided, one-fails, all_pass}
use Rattle.model.proofs.refusals.all_centers_fit.Goals as goal

pub returns-then-not-angle_fits : goal.returns-then-not-angle_fits
unfolding center_fits
returns-then-not-angle_fits c =
    one-fails _ _ _ c.loop-j.invariant c.loop-j-test.true (fails (c.angle_fits.ensures ∙ ap angle_fits c.center_at.ensures) (ap not c.if-not-angle_fits.true))

pub loop-j-preserved : goal.loop-j-preserved
unfolding center_fits
loop-j-preserved c =
    still-undecided _ _ _ c.loop-j.invariant c.loop-j-test.true (holds (c.angle_fits.ensures ∙ ap angle_fits c.center_at.ensures) (ap not c.if-not-angle_fits.false))

pub returns : goal.returns
returns c = all_pass _ _ _ c.loop-j.invariant c.loop-j-test.false
