-- `put_softness` meets its contract.
use Rattle.study_writer.proofs.LinesLaws.{lines_two, lines-three}
use Rattle.study_writer.proofs.study.put_softness.Goals as goal

pub returns : goal.returns
returns c = lines_two _ _ _ c.put_spring-a.ensures (lines-three _ _ _ _ c.put_impulses-b.ensures c.put_center.ensures)
