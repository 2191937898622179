use Rattle.spatial_model.specs.Store.{enabled_at}
use Rattle.spatial_model.proofs.space.SpaceKind.enabled_at.Goals as goal

pub returns : goal.returns
unfolding enabled_at
returns c = c.enabled_of.ensures
