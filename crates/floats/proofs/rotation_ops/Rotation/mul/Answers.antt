-- `mul` computes what its definition says.
use Rattle.std.proofs.Common.{refl}
use Rattle.floats.specs.Rotation.{product_of}
use Rattle.floats.proofs.rotation_ops.Rotation.mul.Goals as goal

pub returns : goal.returns
unfolding product_of
returns c = refl
