-- `put_rule_number` meets its contract.
use Rattle.texts.proofs.SinkLaws.{appended-text}
use Rattle.study_text.proofs.words.put_rule_number.Goals as goal

pub returns : goal.returns
returns c = appended-text c.number_of.ensures c.put_text.ensures
