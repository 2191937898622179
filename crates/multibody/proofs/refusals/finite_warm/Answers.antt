use Rattle.multibody.specs.Refusals.{finite_warm}
use Rattle.multibody.proofs.refusals.finite_warm.Goals as goal

pub returns-in-None : goal.returns-in-None
unfolding finite_warm
returns-in-None c = cc

pub returns-in-Some : goal.returns-in-Some
unfolding finite_warm
returns-in-Some c = cc
