-- `times` computes what its definition says.
use mathlib.Core.Path.{refl}
use Rattle.spatial_floats.specs.Rotation.{times_of}
use Rattle.spatial_floats.proofs.rotation_ops.Rotation.times.Goals as goal

pub returns : goal.returns
unfolding times_of
returns c = refl
