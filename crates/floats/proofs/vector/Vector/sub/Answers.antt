-- `sub` computes what its definition says.
use Rattle.std.proofs.Common.{refl}
use Rattle.floats.specs.Vector.{sub_of}
use Rattle.floats.proofs.vector.Vector.sub.Goals as goal

pub returns : goal.returns
unfolding sub_of
returns c = refl
