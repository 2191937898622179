-- `put_force` meets its contract.
use Rattle.study_writer.proofs.LinesLaws.{lines-one}
use Rattle.study_writer.proofs.study.put_force.Goals as goal

pub returns : goal.returns
returns c = (lines-one _ _ c.put_one_of-a.ensures (lines-one _ _ c.put_one_of-b.ensures c.put_one_of.ensures))
