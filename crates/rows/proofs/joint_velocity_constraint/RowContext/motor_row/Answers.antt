-- `motor_row` meets its contract: each answer is the case that the tests left.
use mathlib.Core.Path.{sym, ◌∙◌}
use borrow.Author.Tests.{eq-eqb, ne_eqb}
use Rattle.rows.specs.Update.{row_of}
use Rattle.rows.proofs.joint_velocity_constraint.RowContext.motor_row.Goals as goal

pub returns-then-axis-eq2 : goal.returns-then-axis-eq2
unfolding row_of
returns-then-axis-eq2 c =
    simp (eq-eqb _ _ c.if-axis-eq2.true, ← c.motor_at-motor.ensures, ← c.motor_params-motor_params.ensures) c.motor_angular.ensures

pub returns-then-is_coupled : goal.returns-then-is_coupled
unfolding row_of
returns-then-is_coupled c =
    simp (ne_eqb _ _ c.if-axis-eq2.false, sym c.is_coupled.ensures ∙ c.if-is_coupled.true, ← c.motor_limits-limits.ensures, ← c.motor_at-motor.ensures, ← c.motor_params-motor_params.ensures) c.motor_linear_coupled.ensures

pub returns : goal.returns
unfolding row_of
returns c =
    simp (ne_eqb _ _ c.if-axis-eq2.false, sym c.is_coupled.ensures ∙ c.if-is_coupled.false, ← c.motor_limits-limits.ensures, ← c.motor_at-motor.ensures, ← c.motor_params-motor_params.ensures) c.motor_linear.ensures
