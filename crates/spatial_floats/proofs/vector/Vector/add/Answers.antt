-- `add` computes what its definition says.
use mathlib.Core.Path.{refl}
use Rattle.spatial_floats.specs.Vector.{add_of}
use Rattle.spatial_floats.proofs.vector.Vector.add.Goals as goal

pub returns : goal.returns
unfolding add_of
returns c = refl
