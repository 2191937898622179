-- `joint_count` meets its contract.
use mathlib.Core.Path.{◌∙◌}
use Rattle.multibody.specs.Counts.{joint_count}
use Rattle.study_writer.proofs.WriteLaws.{least}
use Rattle.study_writer.proofs.study.joint_count.Goals as goal

pub returns : goal.returns
unfolding joint_count
returns c = c.min.ensures ∙ least _ _
