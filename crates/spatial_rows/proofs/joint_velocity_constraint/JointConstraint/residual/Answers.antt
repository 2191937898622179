-- `residual` is put together from what its callees promise.
use Rattle.floats.proofs.ScalarLaws.{clamped-value}
use Rattle.spatial_rows.specs.Step.{residual_of}
use Rattle.spatial_rows.proofs.joint_velocity_constraint.JointConstraint.residual.Goals as goal

pub returns : goal.returns
unfolding residual_of
returns c =
    simp (c.clamp-clamped.ensures, clamped-value, c.wanted_impulse-wanted.ensures)
