-- `put_masses` meets its contract.
use Rattle.study_writer.specs.Text.{body_lines}
use Rattle.study_writer.proofs.LinesLaws.{lines-one}
use Rattle.study_writer.proofs.study.put_masses.Goals as goal

pub returns : goal.returns
unfolding body_lines
returns c = (lines-one _ _ c.put_one-a.ensures (lines-one _ _ c.put_two-b.ensures (lines-one _ _ c.put_two-c.ensures c.put_one.ensures)))
