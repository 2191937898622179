-- `dot` computes what its definition says.
use mathlib.Core.Path.{refl}
use Rattle.spatial_floats.specs.Rotation.{dot_of}
use Rattle.spatial_floats.proofs.rotation_ops.Rotation.dot.Goals as goal

pub returns : goal.returns
unfolding dot_of
returns c = refl
