-- `new` is put together from what its callees promise.
use Rattle.rows.specs.Update.{context_of}
use Rattle.rows.proofs.joint_velocity_constraint.RowContext.new.Goals as goal

pub returns : goal.returns
unfolding context_of
returns c = cc
