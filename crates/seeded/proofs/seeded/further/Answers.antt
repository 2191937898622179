-- `further` meets its contract: there are few joints, so that no sum wraps.
use Rattle.std.proofs.Common.{arith}
use Rattle.seeded.specs.Seeded.{further}
use Rattle.seeded.proofs.PlaceLaws.{few_joints}
use Rattle.seeded.proofs.seeded.further.Goals as goal

pub overflow_mul-joints_of : goal.overflow_mul-joints_of
overflow_mul-joints_of c = omega (arith, few_joints _ c.joints_of.ensures)

pub overflow_add-joints_of : goal.overflow_add-joints_of
overflow_add-joints_of c = omega (arith, few_joints _ c.joints_of.ensures)

pub overflow_add-joints_of-2 : goal.overflow_add-joints_of-2
overflow_add-joints_of-2 c = omega (arith, few_joints _ c.joints_of.ensures)

pub returns : goal.returns
unfolding further
returns c = cc
