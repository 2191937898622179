-- `motor_bounds` computes what its definition says.
use mathlib.Core.Path.{refl}
use Rattle.rows.specs.Makers.{motor_bounds_of}
use Rattle.rows.proofs.joint_constraint_helper.motor_bounds.Goals as goal

pub returns : goal.returns
unfolding motor_bounds_of
returns c = refl
