-- `given` is put together from what its callees promise.
use Rattle.rows.specs.Reaction.{given_of}
use Rattle.rows.proofs.reaction.given.Goals as goal

pub returns : goal.returns
unfolding given_of
returns c = cc
