-- `put_center` meets its contract.
use Rattle.texts.proofs.SinkLaws.{appended-text}
use Rattle.study_writer.proofs.LinesLaws.{center-pair, center-angle}
use Rattle.study_writer.proofs.lines.put_center.Goals as goal

pub returns-then-choice-eq0 : goal.returns-then-choice-eq0
returns-then-choice-eq0 c = appended-text (center-pair _ _ _ c.if-choice-eq0.true) c.put_two.ensures

pub returns : goal.returns
returns c = appended-text (center-angle _ _ _ c.if-choice-eq0.false) c.put_one.ensures
