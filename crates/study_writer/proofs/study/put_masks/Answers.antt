-- `put_masks` meets its contract.
use Rattle.study_writer.proofs.LinesLaws.{lines-one}
use Rattle.study_writer.proofs.study.put_masks.Goals as goal

pub returns : goal.returns
returns c = (lines-one _ _ c.put_mask-a.ensures (lines-one _ _ c.put_mask-b.ensures (lines-one _ _ c.put_mask-c.ensures c.put_mask.ensures)))
