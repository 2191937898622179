-- `context` is put together from what its callees promise.
use Rattle.spatial_rows.specs.Builder.{joint_context_of}
use Rattle.spatial_rows.proofs.joint_constraint_builder.ImpulseJoint.context.Goals as goal

pub returns : goal.returns
unfolding joint_context_of
returns c =
    simp (c.new.ensures, c.solver_body-2.ensures, c.solver_body.ensures, c.mul-2.ensures, c.mul.ensures)
