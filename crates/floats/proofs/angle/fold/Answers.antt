-- `fold` meets its contract: the folds of the definition, with no difference cut off.
use Rattle.std.proofs.Common.{arith}
use Rattle.floats.proofs.angle.fold.Goals as goal
use Rattle.floats.proofs.angle.fold.Goals.{then-steep, else-steep}

pub overflow_sub-result : goal.overflow_sub-result
overflow_sub-result c = elim c.if-steep.branch [ then-steep v ↦ omega arith | else-steep v ↦ omega arith ]

pub returns-then-obtuse : goal.returns-then-obtuse
returns-then-obtuse c = elim c.if-steep.branch [ then-steep v ↦ simp (v.if-steep.true, c.if-obtuse.true, v.b-is) | else-steep v ↦ simp (v.if-steep.false, c.if-obtuse.true, v.b-is) ]

pub returns-else-obtuse : goal.returns-else-obtuse
returns-else-obtuse c = elim c.if-steep.branch [ then-steep v ↦ simp (v.if-steep.true, c.if-obtuse.false) v.b-is | else-steep v ↦ simp (v.if-steep.false, c.if-obtuse.false) v.b-is ]
