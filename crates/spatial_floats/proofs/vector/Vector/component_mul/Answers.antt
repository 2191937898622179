-- `component_mul` computes what its definition says.
use mathlib.Core.Path.{refl}
use Rattle.spatial_floats.specs.Vector.{component_mul_of}
use Rattle.spatial_floats.proofs.vector.Vector.component_mul.Goals as goal

pub returns : goal.returns
unfolding component_mul_of
returns c = refl
