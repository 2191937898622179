-- `with_impulse` computes what its definition says.
use mathlib.Core.Path.{refl}
use Rattle.spatial_rows.specs.Row.{with_impulse}
use Rattle.spatial_rows.proofs.joint_constraint_helper.JointConstraintRow.with_impulse.Goals as goal

pub returns : goal.returns
unfolding with_impulse
returns c = refl
