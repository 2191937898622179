use Rattle.spatial_model.specs.Store.{masks_at, enabled_at}
use Rattle.spatial_model.proofs.store.data_at.Goals as goal

pub returns : goal.returns
unfolding masks_at enabled_at
returns c =
    simp (c.enabled_at.ensures, c.all_motors_at.ensures, c.all_limits_at.ensures, c.masks_at.ensures, c.pose_at-2.ensures, c.pose_at.ensures)
