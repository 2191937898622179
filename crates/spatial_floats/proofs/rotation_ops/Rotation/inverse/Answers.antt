-- `inverse` computes what its definition says.
use mathlib.Core.Path.{refl}
use Rattle.spatial_floats.specs.Rotation.{inverse_of}
use Rattle.spatial_floats.proofs.rotation_ops.Rotation.inverse.Goals as goal

pub returns : goal.returns
unfolding inverse_of
returns c = refl
