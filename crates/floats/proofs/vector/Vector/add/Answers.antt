-- `add` computes what its definition says.
use Rattle.std.proofs.Common.{refl}
use Rattle.floats.specs.Vector.{add_of}
use Rattle.floats.proofs.vector.Vector.add.Goals as goal

pub returns : goal.returns
unfolding add_of
returns c = refl
