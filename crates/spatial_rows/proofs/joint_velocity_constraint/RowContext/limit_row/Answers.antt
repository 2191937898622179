-- `limit_row` is put together from what its callees promise.
use Rattle.spatial_rows.specs.Update.{row_of}
use Rattle.spatial_rows.proofs.joint_velocity_constraint.RowContext.limit_row.Goals as goal

pub returns : goal.returns
unfolding row_of
returns c = simp (← c.limits_at-limits.ensures) c.limit_linear.ensures
