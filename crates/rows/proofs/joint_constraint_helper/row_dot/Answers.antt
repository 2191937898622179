-- `row_dot` is put together from what its callees promise.
use Rattle.rows.specs.Finalize.{row_dot_of}
use Rattle.rows.proofs.joint_constraint_helper.row_dot.Goals as goal

pub returns : goal.returns
unfolding row_dot_of
returns c = cc
