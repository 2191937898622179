use Rattle.model.specs.Refusals.{angle_fits}
use Rattle.model.proofs.refusals.angle_fits.Goals as goal

pub returns-in-CosineSine : goal.returns-in-CosineSine
unfolding angle_fits
returns-in-CosineSine c = cc

pub returns-in-Angle : goal.returns-in-Angle
unfolding angle_fits
returns-in-Angle c = cc
