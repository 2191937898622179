-- `katydidzinc_space_rows_finalize` is put together from what its callees promise.
use Rattle.spatial_comparison.specs.RowExports.{finalized}
use Rattle.spatial_comparison.proofs.joint.katydidzinc_space_rows_finalize.Goals as goal

pub returns : goal.returns
unfolding finalized
returns c = cc
