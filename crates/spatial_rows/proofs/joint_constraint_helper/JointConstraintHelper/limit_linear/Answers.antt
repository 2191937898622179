-- `limit_linear` is put together from what its callees promise.
use Rattle.spatial_rows.proofs.MakerShapes.{limit-linear-is}
use Rattle.spatial_rows.proofs.joint_constraint_helper.JointConstraintHelper.limit_linear.Goals as goal

pub returns : goal.returns
returns c =
    rw limit-linear-is (simp (c.assemble.ensures, c.limit_bounds.ensures, c.limit_bias-rhs_bias.ensures, c.linear_axis-axis.ensures))
