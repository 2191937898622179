-- `put_velocity` meets its contract.
use Rattle.texts.proofs.SinkLaws.{appended_then}
use Rattle.study_text.specs.Velocity.{motion_text, turns_text}
use Rattle.study_text.proofs.velocity.put_velocity.Goals as goal

pub returns : goal.returns
unfolding motion_text turns_text
returns c = appended_then c.put_text-a.ensures (appended_then c.put_moves-b.ensures (appended_then c.put_millionths-c.ensures c.put_text.ensures))
