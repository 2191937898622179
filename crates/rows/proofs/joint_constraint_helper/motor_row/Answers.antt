-- `motor_row` is put together from what its callees promise.
use Rattle.rows.specs.Makers.{motor_row_of}
use Rattle.rows.proofs.joint_constraint_helper.motor_row.Goals as goal

pub returns : goal.returns
unfolding motor_row_of
returns c = cc
