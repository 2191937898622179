-- `recentered_angle` is put together from what its callee promises.
use Rattle.rows.specs.Makers.{recentered_angle_of}
use Rattle.rows.proofs.joint_constraint_helper.JointConstraintHelper.recentered_angle.Goals as goal

pub returns : goal.returns
unfolding recentered_angle_of
returns c = cc
