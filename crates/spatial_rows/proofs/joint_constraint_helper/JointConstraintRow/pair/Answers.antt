-- `pair` is put together from what its callees promise.
use Rattle.spatial_rows.proofs.joint_constraint_helper.JointConstraintRow.pair.Goals as goal

pub returns : goal.returns
returns c = cc
