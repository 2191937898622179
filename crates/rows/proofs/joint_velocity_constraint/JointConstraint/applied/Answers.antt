-- `applied` is put together from what its callees promise.
use Rattle.rows.specs.Step.{applied_of}
use Rattle.rows.proofs.joint_velocity_constraint.JointConstraint.applied.Goals as goal

pub returns : goal.returns
unfolding applied_of
returns c = cc
