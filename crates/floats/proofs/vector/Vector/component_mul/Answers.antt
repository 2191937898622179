-- `component_mul` computes what its definition says.
use Rattle.std.proofs.Common.{refl}
use Rattle.floats.specs.Vector.{component_mul_of}
use Rattle.floats.proofs.vector.Vector.component_mul.Goals as goal

pub returns : goal.returns
unfolding component_mul_of
returns c = refl
