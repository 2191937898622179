-- `dof_row` meets its contract: each answer is the case that the test left.
use borrow.Author.Tests.{lt-ltb, le-ltb}
use Rattle.spatial_rows.specs.Update.{row_of}
use Rattle.spatial_rows.proofs.joint_velocity_constraint.RowContext.dof_row.Goals as goal

pub returns-then-axis-ge3 : goal.returns-then-axis-ge3
unfolding row_of
returns-then-axis-ge3 c = simp (le-ltb _ _ c.if-axis-ge3.true) c.lock_angular.ensures

pub returns-else-axis-ge3 : goal.returns-else-axis-ge3
unfolding row_of
returns-else-axis-ge3 c = simp (lt-ltb _ _ c.if-axis-ge3.false) c.lock_linear.ensures
