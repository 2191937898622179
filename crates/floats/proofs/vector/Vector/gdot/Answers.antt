-- `gdot` computes what its definition says.
use Rattle.std.proofs.Common.{refl}
use Rattle.floats.specs.Vector.{gdot_of}
use Rattle.floats.proofs.vector.Vector.gdot.Goals as goal

pub returns : goal.returns
unfolding gdot_of
returns c = refl
