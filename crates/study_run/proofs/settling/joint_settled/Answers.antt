-- `joint_settled` meets its contract, by that of the row read.
use mathlib.Core.Path.{◌∙◌}
use Rattle.study_run.proofs.SettledLaws.{joint-granted, joint-refused}
use Rattle.study_run.proofs.settling.joint_settled.Goals as goal

pub returns-in-Ok : goal.returns-in-Ok
returns-in-Ok c = c.rows_settled.ensures ∙ joint-granted _ _ _ _ _ c.read_rows.ensures.rows_value c.in-Ok.is

pub returns-in-Err : goal.returns-in-Err
returns-in-Err c = joint-refused _ _ _ _ _ c.read_rows.ensures.rows_value c.in-Err.is
