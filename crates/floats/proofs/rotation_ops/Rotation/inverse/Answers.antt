-- `inverse` computes what its definition says.
use Rattle.std.proofs.Common.{refl}
use Rattle.floats.specs.Rotation.{inverse_of}
use Rattle.floats.proofs.rotation_ops.Rotation.inverse.Goals as goal

pub returns : goal.returns
unfolding inverse_of
returns c = refl
