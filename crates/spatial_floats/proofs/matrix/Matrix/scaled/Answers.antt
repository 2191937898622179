-- `scaled` is put together from what its callees promise.
use Rattle.spatial_floats.specs.Matrix.{scaled_of}
use Rattle.spatial_floats.proofs.matrix.Matrix.scaled.Goals as goal

pub returns : goal.returns
unfolding scaled_of
returns c = cc
