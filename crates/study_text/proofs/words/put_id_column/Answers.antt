-- `put_id_column` meets its contract.
use Rattle.texts.proofs.SinkLaws.{appended_then, appended-text}
use Rattle.study_text.proofs.words.put_id_column.Goals as goal

pub returns : goal.returns
returns c = appended-text c.blanks_after_id.ensures (appended_then c.put_id-a.ensures c.put_text.ensures)
