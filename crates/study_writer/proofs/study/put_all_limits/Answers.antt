-- `put_all_limits` meets its contract.
use Rattle.study_writer.proofs.LinesLaws.{lines_two}
use Rattle.study_writer.proofs.study.put_all_limits.Goals as goal

pub returns : goal.returns
returns c = (lines_two _ _ _ c.put_limits-a.ensures (lines_two _ _ _ c.put_limits-b.ensures c.put_limits.ensures))
