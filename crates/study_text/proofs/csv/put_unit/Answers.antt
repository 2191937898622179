-- `put_unit` meets its contract.
use Rattle.texts.proofs.SinkLaws.{appended-text}
use Rattle.study_text.proofs.WordsLaws.{unit-angular, unit-linear}
use Rattle.study_text.proofs.csv.put_unit.Goals as goal

pub returns-then-axis-eq2 : goal.returns-then-axis-eq2
returns-then-axis-eq2 c = appended-text (unit-angular _ c.if-axis-eq2.true) c.put_text.ensures

pub returns-else-axis-eq2 : goal.returns-else-axis-eq2
returns-else-axis-eq2 c = appended-text (unit-linear _ c.if-axis-eq2.false) c.put_text-else-axis-eq2.ensures
