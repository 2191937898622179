use Rattle.model.specs.Refusals.{finite_center}
use Rattle.model.proofs.refusals.finite_center.Goals as goal

pub returns-in-CosineSine : goal.returns-in-CosineSine
unfolding finite_center
returns-in-CosineSine c = cc

pub returns-in-Angle : goal.returns-in-Angle
unfolding finite_center
returns-in-Angle c = cc
