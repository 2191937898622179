-- `put_model` meets its contract.
use Rattle.study_writer.specs.Text.{lines_text, line_onto, words_onto}
use Rattle.texts.proofs.SinkLaws.{appended_then}
use Rattle.study_writer.proofs.lines.put_model.Goals as goal

pub returns : goal.returns
unfolding lines_text line_onto words_onto
returns c = (appended_then c.put_text-a.ensures (appended_then c.put_word-b.ensures (appended_then c.put_model_word-c.ensures c.put_byte.ensures)))
