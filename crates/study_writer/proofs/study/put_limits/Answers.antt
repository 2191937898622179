-- `put_limits` meets its contract.
use Rattle.study_writer.proofs.LinesLaws.{lines-one}
use Rattle.study_writer.proofs.study.put_limits.Goals as goal

pub returns : goal.returns
returns c = (lines-one _ _ c.put_two_of-a.ensures c.put_one_of.ensures)
