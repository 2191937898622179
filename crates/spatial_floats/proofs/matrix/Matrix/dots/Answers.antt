-- `dots` is put together from what its callees promise.
use Rattle.spatial_floats.specs.Matrix.{dots_of}
use Rattle.spatial_floats.proofs.matrix.Matrix.dots.Goals as goal

pub returns : goal.returns
unfolding dots_of
returns c = cc
