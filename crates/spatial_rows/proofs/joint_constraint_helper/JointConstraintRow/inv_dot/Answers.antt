-- `inv_dot` is put together from what its callees promise.
use Rattle.spatial_rows.proofs.joint_constraint_helper.JointConstraintRow.inv_dot.Goals as goal

pub returns : goal.returns
returns c = cc
