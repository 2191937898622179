-- `put_reaction` meets its contract, by what its three calls ensure.
use Rattle.capi.specs.ReactionExports.{put_reaction}
use Rattle.capi.proofs.reactions.put_reaction.Goals as goal

pub returns : goal.returns
unfolding put_reaction
returns c = cc
