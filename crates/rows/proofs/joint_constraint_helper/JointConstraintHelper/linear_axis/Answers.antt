-- `linear_axis` is put together from what its callees promise.
use Rattle.rows.specs.Helper.{linear_axis_of}
use Rattle.rows.proofs.joint_constraint_helper.JointConstraintHelper.linear_axis.Goals as goal

pub returns : goal.returns
unfolding linear_axis_of
returns c = cc
