-- `katydidzinc_space_rows_step` is put together from what its callees promise.
use Rattle.spatial_comparison.specs.RowExports.{stepped_of}
use Rattle.spatial_comparison.proofs.joint.katydidzinc_space_rows_step.Goals as goal

pub returns : goal.returns
unfolding stepped_of
returns c = cc
