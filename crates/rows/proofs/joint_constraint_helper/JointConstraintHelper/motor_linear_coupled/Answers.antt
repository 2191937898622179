-- `motor_linear_coupled` is put together from what its callees promise.
use Rattle.rows.specs.Makers.{motor_linear_coupled_of}
use Rattle.rows.proofs.joint_constraint_helper.JointConstraintHelper.motor_linear_coupled.Goals as goal

pub returns : goal.returns
unfolding motor_linear_coupled_of
returns c = cc
