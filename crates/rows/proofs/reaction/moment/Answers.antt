-- `moment` is put together from what its callees promise.
use Rattle.rows.specs.Reaction.{moment_of}
use Rattle.rows.proofs.reaction.moment.Goals as goal

pub returns : goal.returns
unfolding moment_of
returns c = cc
