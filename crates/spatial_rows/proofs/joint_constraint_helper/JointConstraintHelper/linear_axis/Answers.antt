-- `linear_axis` is put together from what its callees promise.
use Rattle.spatial_rows.specs.Helper.{linear_axis_of}
use Rattle.spatial_rows.proofs.joint_constraint_helper.JointConstraintHelper.linear_axis.Goals as goal

pub returns : goal.returns
unfolding linear_axis_of
returns c =
    simp (c.column-2.ensures, c.column.ensures, c.gdot.ensures, c.column-lin_jac.ensures)
