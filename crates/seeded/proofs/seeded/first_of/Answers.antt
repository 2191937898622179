-- `first_of` meets its contract: there is a body.
use Rattle.std.proofs.Common.{arith}
use Rattle.seeded.specs.Seeded.{first_of}
use Rattle.seeded.proofs.PlaceLaws.{few_bodies}
use Rattle.seeded.proofs.seeded.first_of.Goals as goal

pub nonzero_rem-result : goal.nonzero_rem-result
nonzero_rem-result c = omega (arith, few_bodies _ c.bodies_of.ensures)

pub returns : goal.returns
unfolding first_of
returns c = cc
