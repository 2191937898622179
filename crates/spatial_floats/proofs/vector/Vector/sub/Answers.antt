-- `sub` computes what its definition says.
use mathlib.Core.Path.{refl}
use Rattle.spatial_floats.specs.Vector.{sub_of}
use Rattle.spatial_floats.proofs.vector.Vector.sub.Goals as goal

pub returns : goal.returns
unfolding sub_of
returns c = refl
