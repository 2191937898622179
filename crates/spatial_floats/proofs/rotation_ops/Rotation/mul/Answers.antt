-- `mul` computes what its definition says.
use mathlib.Core.Path.{refl}
use Rattle.spatial_floats.specs.Rotation.{product_of}
use Rattle.spatial_floats.proofs.rotation_ops.Rotation.mul.Goals as goal

pub returns : goal.returns
unfolding product_of
returns c = refl
