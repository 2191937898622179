-- `motor_row` is put together from what its callees promise.
use Rattle.spatial_rows.specs.Update.{row_of}
use Rattle.spatial_rows.proofs.joint_velocity_constraint.RowContext.motor_row.Goals as goal

pub returns : goal.returns
unfolding row_of
returns c =
    simp (← c.motor_limits-limits.ensures, ← c.motor_at-motor.ensures, ← c.motor_params-motor_params.ensures) c.motor_linear.ensures
