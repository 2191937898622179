-- `motor_angular` is put together from what its callees promise.
use Rattle.rows.specs.Makers.{motor_angular_of}
use Rattle.rows.proofs.joint_constraint_helper.JointConstraintHelper.motor_angular.Goals as goal

pub returns : goal.returns
unfolding motor_angular_of
returns c = cc
