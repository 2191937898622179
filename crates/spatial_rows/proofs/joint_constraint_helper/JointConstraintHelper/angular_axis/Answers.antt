-- `angular_axis` is put together from what its callees promise.
use Rattle.spatial_rows.specs.Helper.{angular_axis_of}
use Rattle.spatial_rows.proofs.joint_constraint_helper.JointConstraintHelper.angular_axis.Goals as goal

pub returns : goal.returns
unfolding angular_axis_of
returns c = simp c.column-ang_jac.ensures
