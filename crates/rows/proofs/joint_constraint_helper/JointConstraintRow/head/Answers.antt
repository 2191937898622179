-- `head` is put together from what its callees promise: two fields change, and the others stay.
use Rattle.rows.specs.Finalize.{head_of}
use Rattle.rows.proofs.joint_constraint_helper.JointConstraintRow.head.Goals as goal

pub returns : goal.returns
unfolding head_of
returns c = cc
