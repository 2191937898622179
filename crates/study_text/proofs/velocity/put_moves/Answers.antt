-- `put_moves` meets its contract.
use Rattle.texts.proofs.SinkLaws.{appended_then}
use Rattle.study_text.specs.Velocity.{moves_text}
use Rattle.study_text.proofs.velocity.put_moves.Goals as goal

pub returns : goal.returns
unfolding moves_text
returns c = appended_then (appended_then (appended_then (appended_then c.put_text-a.ensures c.put_millionths-b.ensures) c.put_text-c.ensures) c.put_millionths-d.ensures) c.put_text.ensures
