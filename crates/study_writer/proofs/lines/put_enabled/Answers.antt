-- `put_enabled` meets its contract.
use Rattle.texts.proofs.SinkLaws.{appended-text}
use Rattle.study_writer.proofs.LinesLaws.{enabled-enabled, enabled-attached, enabled-disabled}
use Rattle.study_writer.proofs.lines.put_enabled.Goals as goal

pub returns-then-e-eq0 : goal.returns-then-e-eq0
returns-then-e-eq0 c = appended-text (enabled-enabled _ c.if-e-eq0.true) c.put_text.ensures

pub returns-then-e-eq1 : goal.returns-then-e-eq1
returns-then-e-eq1 c = appended-text (enabled-attached _ c.if-e-eq0.false c.if-e-eq1.true) c.put_text-then-e-eq1.ensures

pub returns : goal.returns
returns c = appended-text (enabled-disabled _ c.if-e-eq0.false c.if-e-eq1.false) c.put_text-2.ensures
