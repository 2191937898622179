use Rattle.model.specs.Store.{enabled_at}
use Rattle.model.proofs.plane.PlaneKind.enabled_at.Goals as goal

pub returns : goal.returns
unfolding enabled_at
returns c = c.enabled_of.ensures
