-- `assemble` is put together from what its callees promise.
use Rattle.rows.specs.Makers.{assemble_of}
use Rattle.rows.proofs.joint_constraint_helper.assemble.Goals as goal

pub returns : goal.returns
unfolding assemble_of
returns c = cc
