-- `reads_rows` meets its contract, by cases of the warm coefficient.
use Rattle.multibody.specs.Refusals.{reads_rows}
use Rattle.multibody.proofs.joint_rows.reads_rows.Goals as goal

pub returns-in-None : goal.returns-in-None
unfolding reads_rows
returns-in-None c = cc

pub returns-in-Some : goal.returns-in-Some
unfolding reads_rows
returns-in-Some c = cc
