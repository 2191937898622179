-- `head` is put together from what its callees promise: two fields change, and the others stay.
use Rattle.spatial_rows.specs.Finalize.{head_of}
use Rattle.spatial_rows.proofs.joint_constraint_helper.JointConstraintRow.head.Goals as goal

pub returns : goal.returns
unfolding head_of
returns c = cc
