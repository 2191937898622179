-- `mul` computes what its definition says.
use Rattle.std.proofs.Common.{refl}
use Rattle.floats.specs.Vector.{mul_of}
use Rattle.floats.proofs.vector.Vector.mul.Goals as goal

pub returns : goal.returns
unfolding mul_of
returns c = refl
