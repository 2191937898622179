-- `put_motor` meets its contract.
use Rattle.study_writer.proofs.LinesLaws.{lines-three}
use Rattle.study_writer.proofs.study.put_motor.Goals as goal

pub returns : goal.returns
returns c = lines-three _ _ _ _ c.put_drive-a.ensures c.put_force.ensures
