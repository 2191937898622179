-- `transpose` computes what its definition says.
use mathlib.Core.Path.{refl}
use Rattle.spatial_floats.specs.Matrix.{transpose_of}
use Rattle.spatial_floats.proofs.matrix.Matrix.transpose.Goals as goal

pub returns : goal.returns
unfolding transpose_of
returns c = refl
