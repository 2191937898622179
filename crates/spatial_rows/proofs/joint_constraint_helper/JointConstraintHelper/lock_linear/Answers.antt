-- `lock_linear` is put together from what its callees promise.
use Rattle.spatial_rows.specs.Makers.{lock_linear_of}
use Rattle.spatial_rows.proofs.joint_constraint_helper.JointConstraintHelper.lock_linear.Goals as goal

pub returns : goal.returns
unfolding lock_linear_of
returns c =
    simp (c.assemble.ensures, c.lock_bounds.ensures, c.gdot.ensures, c.linear_axis-axis.ensures)
