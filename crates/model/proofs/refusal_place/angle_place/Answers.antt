-- `angle_place` meets its contract: the joint's typed angle is tried.
use mathlib.Core.Bool.{not}
use mathlib.Core.Path.{ap, ◌∙◌}
use Rattle.multibody.proofs.RuleLaws.{holds, fails}
use Rattle.model.specs.Refusals.{angle_fits, center_fits}
use Rattle.model.specs.RefusalPlace.{broken}
use Rattle.model.proofs.refusal_place.angle_place.Goals as goal

pub returns-then-not-angle_fits : goal.returns-then-not-angle_fits
unfolding broken center_fits
returns-then-not-angle_fits c = rw (fails (c.angle_fits.ensures ∙ ap angle_fits c.center_at.ensures) (ap not c.if-not-angle_fits.true))

pub returns : goal.returns
unfolding broken center_fits
returns c = rw (holds (c.angle_fits.ensures ∙ ap angle_fits c.center_at.ensures) (ap not c.if-not-angle_fits.false))
