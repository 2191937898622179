-- `put_change` meets its contract.
use Rattle.texts.proofs.SinkLaws.{appended_then}
use Rattle.study_text.specs.Residual.{change_text}
use Rattle.study_text.proofs.residual.put_change.Goals as goal

pub returns : goal.returns
unfolding change_text
returns c = appended_then (appended_then (appended_then (appended_then c.put_text-a.ensures c.put_id-b.ensures) c.put_text-c.ensures) c.put_spelled-d.ensures) c.put_text.ensures
