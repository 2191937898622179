-- `joints_of` meets its contract.
use Rattle.seeded.specs.Seeded.{joints_of}
use Rattle.seeded.proofs.seeded.joints_of.Goals as goal

pub returns : goal.returns
unfolding joints_of
returns c = cc
