-- `put_forces` meets its contract.
use Rattle.texts.proofs.SinkLaws.{appended_then}
use Rattle.study_text.specs.Reaction.{forces_text}
use Rattle.study_text.proofs.reaction.put_forces.Goals as goal

pub returns : goal.returns
unfolding forces_text
returns c = appended_then c.put_numbers-a.ensures c.put_numbers.ensures
