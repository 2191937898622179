-- `write_reaction_heading` meets its contract.
use Rattle.study_text.specs.Reaction.{reaction_heading}
use Rattle.study_text.proofs.reaction.write_reaction_heading.Goals as goal

pub returns : goal.returns
unfolding reaction_heading
returns c = c.write_text.ensures
