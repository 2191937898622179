-- `lock_angular` is put together from what its callees promise.
use Rattle.rows.specs.Makers.{lock_angular_of}
use Rattle.rows.proofs.joint_constraint_helper.JointConstraintHelper.lock_angular.Goals as goal

pub returns : goal.returns
unfolding lock_angular_of
returns c = cc
