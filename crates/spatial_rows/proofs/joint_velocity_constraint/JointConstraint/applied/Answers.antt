-- `applied` is put together from what its callees promise.
use Rattle.spatial_rows.specs.Step.{applied_of}
use Rattle.spatial_rows.proofs.joint_velocity_constraint.JointConstraint.applied.Goals as goal

pub returns : goal.returns
unfolding applied_of
returns c =
    simp (c.sub-2.ensures, c.mul-2.ensures, c.sub.ensures, c.component_mul-2.ensures, c.add-2.ensures, c.mul.ensures, c.add.ensures, c.component_mul.ensures, c.mul-lin_impulse.ensures)
