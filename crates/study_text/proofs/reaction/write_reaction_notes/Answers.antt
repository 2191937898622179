-- `write_reaction_notes` meets its contract.
use Rattle.study_text.specs.Reaction.{reaction_notes}
use Rattle.study_text.proofs.reaction.write_reaction_notes.Goals as goal

pub returns : goal.returns
unfolding reaction_notes
returns c = c.write_text.ensures
