-- `warmstart_generic` is put together from what its callee promises.
use Rattle.spatial_rows.specs.Step.{warmstart_of}
use Rattle.spatial_rows.proofs.joint_velocity_constraint.JointConstraint.warmstart_generic.Goals as goal

pub returns : goal.returns
unfolding warmstart_of
returns c = cc
