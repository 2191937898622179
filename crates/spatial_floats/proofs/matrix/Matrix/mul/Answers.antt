-- `mul` is put together from what its callees promise.
use Rattle.spatial_floats.specs.Matrix.{matrix_product_of}
use Rattle.spatial_floats.proofs.matrix.Matrix.mul.Goals as goal

pub returns : goal.returns
unfolding matrix_product_of
returns c = cc
