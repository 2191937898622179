-- `lock_linear` is put together from what its callees promise.
use Rattle.rows.specs.Makers.{lock_linear_of}
use Rattle.rows.proofs.joint_constraint_helper.JointConstraintHelper.lock_linear.Goals as goal

pub returns : goal.returns
unfolding lock_linear_of
returns c = cc
