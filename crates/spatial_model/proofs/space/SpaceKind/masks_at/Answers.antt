use Rattle.spatial_model.specs.Store.{masks_at}
use Rattle.spatial_model.proofs.space.SpaceKind.masks_at.Goals as goal

pub returns : goal.returns
unfolding masks_at
returns c = c.spatial_masks.ensures
