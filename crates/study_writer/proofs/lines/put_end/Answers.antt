-- `put_end` meets its contract.
use Rattle.texts.proofs.SinkLaws.{appended-text}
use Rattle.study_writer.proofs.LinesLaws.{end-world, end_body}
use Rattle.study_writer.proofs.lines.put_end.Goals as goal

pub returns-then-i-eq-WORLD : goal.returns-then-i-eq-WORLD
returns-then-i-eq-WORLD c = appended-text (end-world _ c.if-i-eq-WORLD.true) c.put_text.ensures

pub returns : goal.returns
returns c = appended-text (end_body _ c.if-i-eq-WORLD.false) c.put_body_word.ensures
