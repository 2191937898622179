-- `put_models` meets its contract.
use Rattle.study_writer.proofs.LinesLaws.{lines-one}
use Rattle.study_writer.proofs.study.put_models.Goals as goal

pub returns : goal.returns
returns c = (lines-one _ _ c.put_model-a.ensures (lines-one _ _ c.put_model-b.ensures c.put_model.ensures))
