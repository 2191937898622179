-- `joint_reaction` is put together from what its callees promise.
use Rattle.rows.specs.Reaction.{reaction_of}
use Rattle.rows.proofs.reaction.joint_reaction.Goals as goal

pub returns : goal.returns
unfolding reaction_of
returns c = cc
