-- `put_frames` meets its contract.
use Rattle.study_writer.proofs.LinesLaws.{lines-one}
use Rattle.study_writer.proofs.study.put_frames.Goals as goal

pub returns : goal.returns
returns c = (lines-one _ _ c.put_two-a.ensures (lines-one _ _ c.put_two-b.ensures (lines-one _ _ c.put_two-c.ensures c.put_two.ensures)))
