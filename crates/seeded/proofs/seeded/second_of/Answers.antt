-- `second_of` meets its contract.
use Rattle.std.proofs.Common.{arith}
use Rattle.seeded.proofs.PlaceLaws.{few_bodies, second-last, second-first, second-other}
use Rattle.seeded.proofs.seeded.second_of.Goals as goal

pub overflow_add-b : goal.overflow_add-b
overflow_add-b c = omega (arith, few_bodies _ c.bodies_of-n.ensures)
