-- `gcross_matrix` computes what its definition says.
use Rattle.std.proofs.Common.{refl}
use Rattle.floats.specs.Vector.{gcross_matrix_of}
use Rattle.floats.proofs.vector.Vector.gcross_matrix.Goals as goal

pub returns : goal.returns
unfolding gcross_matrix_of
returns c = refl
