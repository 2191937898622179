-- `put_reaction` meets its contract.
use Rattle.texts.proofs.SinkLaws.{appended_then}
use Rattle.study_text.specs.Reaction.{reaction_text, reaction_values}
use Rattle.study_text.proofs.reaction.put_reaction.Goals as goal

pub returns : goal.returns
unfolding reaction_text reaction_values
returns c = appended_then c.put_names-a.ensures (appended_then c.put_forces-b.ensures c.put_turned.ensures)
