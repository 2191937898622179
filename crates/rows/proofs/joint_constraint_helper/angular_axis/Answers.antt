-- `angular_axis` computes what its definition says.
use mathlib.Core.Path.{refl}
use Rattle.rows.specs.Helper.{angular_axis}
use Rattle.rows.proofs.joint_constraint_helper.angular_axis.Goals as goal

pub returns : goal.returns
unfolding angular_axis
returns c = refl
