use Rattle.std.proofs.Common.{rules}
use Rattle.seeded.specs.Draws.{mixed_of}
use Rattle.seeded.proofs.draws.mixed.Goals as goal

pub returns : goal.returns
unfolding mixed_of
returns c = search rules
