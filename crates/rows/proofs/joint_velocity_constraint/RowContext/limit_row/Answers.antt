-- `limit_row` meets its contract: each answer is the case that the tests left.
use mathlib.Core.Path.{sym, ◌∙◌}
use borrow.Author.Tests.{eq-eqb, ne_eqb}
use Rattle.rows.specs.Update.{row_of}
use Rattle.rows.proofs.joint_velocity_constraint.RowContext.limit_row.Goals as goal

pub returns-then-axis-eq2 : goal.returns-then-axis-eq2
unfolding row_of
returns-then-axis-eq2 c = simp (eq-eqb _ _ c.if-axis-eq2.true) c.limit_angular.ensures

pub returns-then-is_coupled : goal.returns-then-is_coupled
unfolding row_of
returns-then-is_coupled c =
    simp (ne_eqb _ _ c.if-axis-eq2.false, sym c.is_coupled.ensures ∙ c.if-is_coupled.true, ← c.limits_at-limits.ensures) c.limit_linear_coupled.ensures

pub returns : goal.returns
unfolding row_of
returns c =
    simp (ne_eqb _ _ c.if-axis-eq2.false, sym c.is_coupled.ensures ∙ c.if-is_coupled.false, ← c.limits_at-limits.ensures) c.limit_linear.ensures
