-- `limit_linear_coupled` is put together from what its callees promise.
use Rattle.floats.proofs.ScalarLaws.{clamped-value}
use Rattle.rows.specs.Makers.{limit_linear_coupled_of}
use Rattle.rows.proofs.joint_constraint_helper.JointConstraintHelper.limit_linear_coupled.Goals as goal

pub returns : goal.returns
unfolding limit_linear_coupled_of
returns c =
    simp (
      c.assemble.ensures,
      c.infinity.ensures,
      c.clamp-rhs_bias.ensures,
      clamped-value,
      c.max.ensures,
      c.max_corrective_velocity-max_bias.ensures,
      c.inv_dt.ensures,
      c.min.ensures,
      c.coupled_axis-axis.ensures,
    )
