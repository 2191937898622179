-- `lock_angular` is put together from what its callees promise.
use Rattle.spatial_rows.specs.Makers.{lock_angular_of}
use Rattle.spatial_rows.proofs.joint_constraint_helper.JointConstraintHelper.lock_angular.Goals as goal

pub returns : goal.returns
unfolding lock_angular_of
returns c =
    simp (c.assemble.ensures, c.lock_bounds.ensures, c.coord.ensures, c.xyz.ensures, c.angular_axis-axis.ensures)
