use Rattle.model.specs.Store.{joint_at, center_at}
use Rattle.model.proofs.store.joint_at.Goals as goal

pub returns : goal.returns
unfolding joint_at center_at
returns c = rw (c.rotation_of.ensures, c.center_at.ensures, c.data_at-data.ensures)
