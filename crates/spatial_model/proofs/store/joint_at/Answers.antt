use Rattle.spatial_model.specs.Store.{joint_at}
use Rattle.spatial_model.proofs.store.joint_at.Goals as goal

pub returns : goal.returns
unfolding joint_at
returns c = rw (c.dofs_at-impulses.ensures, c.data_at-data.ensures)
