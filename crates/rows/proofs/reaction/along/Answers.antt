-- `along` is put together from what its callees promise.
use Rattle.rows.specs.Reaction.{along_of}
use Rattle.rows.proofs.reaction.along.Goals as goal

pub returns : goal.returns
unfolding along_of
returns c = cc
