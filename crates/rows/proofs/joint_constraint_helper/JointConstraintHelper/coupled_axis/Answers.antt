-- `coupled_axis` is put together from what its callees promise.
use Rattle.rows.specs.Helper.{coupled_axis_of}
use Rattle.rows.proofs.joint_constraint_helper.JointConstraintHelper.coupled_axis.Goals as goal

pub returns : goal.returns
unfolding coupled_axis_of
returns c =
    simp (
      c.mul.ensures,
      c.simd_inv-inv_dist.ensures,
      c.simd_length-dist.ensures,
      c.coupled_step-c.ensures,
      c.coupled_step.ensures,
    )
