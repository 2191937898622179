-- `header_of` meets its contract.
use Rattle.seeded.proofs.seeded.header_of.Goals as goal

pub returns : goal.returns
returns c = cc
