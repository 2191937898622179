-- `put_definition` meets its contract.
use Rattle.texts.proofs.SinkLaws.{appended-text}
use Rattle.study_text.proofs.words.put_definition.Goals as goal

pub returns : goal.returns
returns c = appended-text c.definition_text.ensures c.put_text.ensures
