-- `coord` meets its contract: each answer is the case that the tests left.
use borrow.Author.Tests.{eq-eqb, ne_eqb}
use Rattle.spatial_rows.specs.Helper.{coord_of}
use Rattle.spatial_rows.proofs.joint_constraint_helper.coord.Goals as goal

pub returns-then-axis-eq0 : goal.returns-then-axis-eq0
unfolding coord_of
returns-then-axis-eq0 c = simp (eq-eqb _ _ c.if-axis-eq0.true)

pub returns-then-axis-eq1 : goal.returns-then-axis-eq1
unfolding coord_of
returns-then-axis-eq1 c = simp (ne_eqb _ _ c.if-axis-eq0.false, eq-eqb _ _ c.if-axis-eq1.true)

pub returns-else-axis-eq1 : goal.returns-else-axis-eq1
unfolding coord_of
returns-else-axis-eq1 c = simp (ne_eqb _ _ c.if-axis-eq0.false, ne_eqb _ _ c.if-axis-eq1.false)
