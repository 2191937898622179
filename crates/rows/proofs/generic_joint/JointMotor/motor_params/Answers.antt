-- `motor_params` is put together from what its callees promise.
use Rattle.rows.specs.GenericJoint.{motor_params_of}
use Rattle.rows.proofs.generic_joint.JointMotor.motor_params.Goals as goal

pub returns : goal.returns
unfolding motor_params_of
returns c = cc
