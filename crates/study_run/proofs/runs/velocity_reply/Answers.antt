-- `velocity_reply` meets its contract, by that of the velocity read.
use Rattle.multibody.proofs.AnswerLaws.{passed-on}
use Rattle.study_run.proofs.RunLaws.{velocity-granted, velocity-refused}
use Rattle.study_run.proofs.runs.velocity_reply.Goals as goal

pub returns : goal.returns
returns c = velocity-granted _ (c.read_velocity.ensures _) c.in_ok-v.was

pub returns-in_err-v : goal.returns-in_err-v
returns-in_err-v c = rw (passed-on _ c.from_residual.ensures.1) (velocity-refused _ (c.read_velocity.ensures _) c.in_err-v.was)
