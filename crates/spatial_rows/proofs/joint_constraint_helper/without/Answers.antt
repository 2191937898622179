-- `without` is put together from what its callees promise.
use Rattle.spatial_rows.specs.Finalize.{without_of}
use Rattle.spatial_rows.proofs.joint_constraint_helper.without.Goals as goal

pub returns : goal.returns
unfolding without_of
returns c = cc
