-- `limit_angular` is put together from what its callees promise.
use Rattle.rows.specs.Makers.{limit_angular_of}
use Rattle.rows.proofs.joint_constraint_helper.JointConstraintHelper.limit_angular.Goals as goal

pub returns : goal.returns
unfolding limit_angular_of
returns c =
    simp (c.assemble.ensures, c.limit_bounds.ensures, c.angular_axis.ensures, c.limit_bias-rhs_bias.ensures, c.recentered_angle-ang.ensures)
