-- `found` meets its contract.
use mathlib.Core.Path.{◌∙◌}
use Rattle.study_run.proofs.RunLaws.{found-or}
use Rattle.study_run.proofs.motors.found.Goals as goal

pub returns : goal.returns
returns c = c.unwrap_or.ensures ∙ found-or c.args.swept
