-- `mask_of` meets its contract.
use Rattle.seeded.specs.Seeded.{mask_of}
use Rattle.seeded.proofs.seeded.mask_of.Goals as goal

pub returns : goal.returns
unfolding mask_of
returns c = cc
