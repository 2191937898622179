-- `put_residual` meets its contract.
use Rattle.texts.proofs.SinkLaws.{appended_then}
use Rattle.study_text.proofs.residual.put_residual.Goals as goal

pub returns : goal.returns
returns c = appended_then c.put_text-a.ensures c.put_change.ensures
