-- `gdot` computes what its definition says.
use mathlib.Core.Path.{refl}
use Rattle.spatial_floats.specs.Vector.{gdot_of}
use Rattle.spatial_floats.proofs.vector.Vector.gdot.Goals as goal

pub returns : goal.returns
unfolding gdot_of
returns c = refl
