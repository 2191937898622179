-- `step` is put together from what its callees promise.
use Rattle.floats.proofs.ScalarLaws.{clamped-value, clamped-side}
use Rattle.rows.specs.Step.{step_of}
use Rattle.rows.proofs.joint_velocity_constraint.JointConstraint.step.Goals as goal

pub returns : goal.returns
unfolding step_of
returns c =
    simp (c.applied.ensures, c.with_impulse.ensures, c.clamp-clamped.ensures, clamped-value, clamped-side, c.wanted_impulse-wanted.ensures)
