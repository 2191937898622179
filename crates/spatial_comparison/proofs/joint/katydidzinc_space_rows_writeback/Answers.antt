-- `katydidzinc_space_rows_writeback` is put together from what its callees promise.
use Rattle.spatial_comparison.proofs.joint.katydidzinc_space_rows_writeback.Goals as goal

pub returns : goal.returns
returns c = cc
