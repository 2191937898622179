-- `gcross_matrix` computes what its definition says.
use mathlib.Core.Path.{refl}
use Rattle.spatial_floats.specs.Matrix.{gcross_matrix_of}
use Rattle.spatial_floats.proofs.matrix.gcross_matrix.Goals as goal

pub returns : goal.returns
unfolding gcross_matrix_of
returns c = refl
