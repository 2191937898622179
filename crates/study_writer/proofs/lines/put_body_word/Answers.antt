-- `put_body_word` meets its contract.
use Rattle.study_writer.specs.Text.{body_word}
use Rattle.texts.proofs.SinkLaws.{appended_then}
use Rattle.study_writer.proofs.lines.put_body_word.Goals as goal

pub returns : goal.returns
unfolding body_word
returns c = (appended_then c.put_text-a.ensures c.put_decimal.ensures)
