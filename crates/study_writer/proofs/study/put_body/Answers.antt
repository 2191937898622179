-- `put_body` meets its contract.
use Rattle.study_writer.specs.Text.{body_lines}
use Rattle.study_writer.proofs.LinesLaws.{lines-three}
use Rattle.study_writer.proofs.study.put_body.Goals as goal

pub returns : goal.returns
unfolding body_lines
returns c = lines-three _ _ _ _ c.put_pose-a.ensures c.put_masses.ensures
