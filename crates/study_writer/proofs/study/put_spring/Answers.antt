-- `put_spring` meets its contract.
use Rattle.study_writer.proofs.LinesLaws.{lines-one}
use Rattle.study_writer.proofs.study.put_spring.Goals as goal

pub returns : goal.returns
returns c = (lines-one _ _ c.put_one-a.ensures c.put_one.ensures)
