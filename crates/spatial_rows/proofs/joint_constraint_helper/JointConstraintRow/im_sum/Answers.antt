-- `im_sum` is the sum that its callee promises.
use Rattle.spatial_rows.specs.Finalize.{im_sum_of}
use Rattle.spatial_rows.proofs.joint_constraint_helper.JointConstraintRow.im_sum.Goals as goal

pub returns : goal.returns
unfolding im_sum_of
returns c = c.add.ensures
