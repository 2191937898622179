-- `remove_bias_from_rhs` computes what its definition says.
use mathlib.Core.Path.{refl}
use Rattle.rows.specs.Step.{remove_bias_of}
use Rattle.rows.proofs.joint_velocity_constraint.JointConstraint.remove_bias_from_rhs.Goals as goal

pub returns : goal.returns
unfolding remove_bias_of
returns c = refl
