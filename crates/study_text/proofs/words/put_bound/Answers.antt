-- `put_bound` meets its contract.
use Rattle.texts.proofs.SinkLaws.{appended-text}
use Rattle.study_text.proofs.words.put_bound.Goals as goal

pub returns : goal.returns
returns c = appended-text c.bound_column.ensures c.put_text.ensures
