-- `step` is put together from what its callees promise.
use Rattle.floats.specs.Scalar.{clamped_of}
use Rattle.spatial_rows.specs.Step.{step_of}
use Rattle.spatial_rows.proofs.joint_velocity_constraint.JointConstraint.step.Goals as goal

pub returns : goal.returns
unfolding step_of clamped_of
returns c =
    simp (c.applied.ensures, c.with_impulse.ensures, c.clamp-clamped.ensures, c.wanted_impulse-wanted.ensures)
