-- `less` is put together from what its callees promise: seven fields change, and the others stay.
use Rattle.spatial_rows.specs.Finalize.{less_of}
use Rattle.spatial_rows.proofs.joint_constraint_helper.less.Goals as goal

pub returns : goal.returns
unfolding less_of
returns c = cc
