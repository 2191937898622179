use mathlib.Core.Path.{◌∙◌}
use Rattle.multibody.specs.JointRows.{motor_count}
use Rattle.model.proofs.plane.PlaneKind.motor_count.Goals as goal

pub returns : goal.returns
unfolding motor_count
returns c words j e = c.motor_count.ensures ∙ rw e
