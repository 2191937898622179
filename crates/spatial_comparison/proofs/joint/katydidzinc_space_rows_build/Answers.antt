-- `katydidzinc_space_rows_build` is put together from what its callees promise.
use Rattle.spatial_comparison.proofs.joint.katydidzinc_space_rows_build.Goals as goal

pub returns : goal.returns
returns c = cc
