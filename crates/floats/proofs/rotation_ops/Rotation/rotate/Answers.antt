-- `rotate` computes what its definition says.
use Rattle.std.proofs.Common.{refl}
use Rattle.floats.specs.Rotation.{rotate_of}
use Rattle.floats.proofs.rotation_ops.Rotation.rotate.Goals as goal

pub returns : goal.returns
unfolding rotate_of
returns c = refl
