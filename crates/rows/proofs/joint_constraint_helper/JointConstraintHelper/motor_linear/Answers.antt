-- `motor_linear` is put together from what its callees promise.
use Rattle.rows.proofs.MakerShapes.{motor-linear-is}
use Rattle.rows.proofs.joint_constraint_helper.JointConstraintHelper.motor_linear.Goals as goal

pub returns : goal.returns
returns c = rw motor-linear-is (cc)
