-- `wanted_impulse` is put together from what its callees promise.
use Rattle.rows.specs.Step.{wanted_impulse_of}
use Rattle.rows.proofs.joint_velocity_constraint.JointConstraint.wanted_impulse.Goals as goal

pub returns : goal.returns
unfolding wanted_impulse_of
returns c =
    simp (c.gdot-dlinvel.ensures, c.sub.ensures)
