-- `mul` computes what its definition says.
use mathlib.Core.Path.{refl}
use Rattle.spatial_floats.specs.Vector.{mul_of}
use Rattle.spatial_floats.proofs.vector.Vector.mul.Goals as goal

pub returns : goal.returns
unfolding mul_of
returns c = refl
