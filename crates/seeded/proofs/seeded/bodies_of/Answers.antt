-- `bodies_of` meets its contract.
use Rattle.seeded.specs.Seeded.{bodies_of}
use Rattle.seeded.proofs.seeded.bodies_of.Goals as goal

pub returns : goal.returns
unfolding bodies_of
returns c = cc
