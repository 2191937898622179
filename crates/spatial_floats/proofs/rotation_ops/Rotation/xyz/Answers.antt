-- `xyz` computes what its definition says.
use mathlib.Core.Path.{refl}
use Rattle.spatial_floats.specs.Rotation.{xyz_of}
use Rattle.spatial_floats.proofs.rotation_ops.Rotation.xyz.Goals as goal

pub returns : goal.returns
unfolding xyz_of
returns c = refl
