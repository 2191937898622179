-- `column` meets its contract: each answer is the case that the test left.
use Rattle.std.proofs.Common.{eq-eqb, ne_eqb}
use Rattle.floats.specs.Rotation.{column_of}
use Rattle.floats.proofs.rotation_ops.Matrix.column.Goals as goal

pub returns-then-i-eq0 : goal.returns-then-i-eq0
unfolding column_of
returns-then-i-eq0 c = simp (eq-eqb _ _ c.if-i-eq0.true)

pub returns-else-i-eq0 : goal.returns-else-i-eq0
unfolding column_of
returns-else-i-eq0 c = simp (ne_eqb _ _ c.if-i-eq0.false)
