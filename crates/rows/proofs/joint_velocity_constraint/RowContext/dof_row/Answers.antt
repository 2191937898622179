-- `dof_row` meets its contract: each answer is the case that the test left.
use borrow.Author.Tests.{eq-eqb, ne_eqb}
use Rattle.rows.specs.Update.{row_of}
use Rattle.rows.proofs.joint_velocity_constraint.RowContext.dof_row.Goals as goal

pub returns-then-axis-eq2 : goal.returns-then-axis-eq2
unfolding row_of
returns-then-axis-eq2 c = simp (eq-eqb _ _ c.if-axis-eq2.true) c.lock_angular.ensures

pub returns-else-axis-eq2 : goal.returns-else-axis-eq2
unfolding row_of
returns-else-axis-eq2 c = simp (ne_eqb _ _ c.if-axis-eq2.false) c.lock_linear.ensures
