-- `put_pose` meets its contract.
use Rattle.study_writer.specs.Text.{body_lines}
use Rattle.study_writer.proofs.LinesLaws.{lines-one}
use Rattle.study_writer.proofs.study.put_pose.Goals as goal

pub returns : goal.returns
unfolding body_lines
returns c = (lines-one _ _ c.put_body_line-a.ensures (lines-one _ _ c.put_two-b.ensures c.put_two.ensures))
