-- `put_word` meets its contract.
use Rattle.texts.proofs.SinkLaws.{appended_then}
use Rattle.study_writer.proofs.lines.put_word.Goals as goal

pub returns : goal.returns
returns c = (appended_then c.put_byte-a.ensures c.put_text.ensures)
