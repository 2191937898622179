-- `pure` computes what its definition says.
use mathlib.Core.Path.{refl}
use Rattle.spatial_floats.specs.Rotation.{pure_of}
use Rattle.spatial_floats.proofs.rotation_ops.pure.Goals as goal

pub returns : goal.returns
unfolding pure_of
returns c = refl
