-- `min` meets its contract: each answer is the case that the test left.
use Rattle.floats.specs.Scalar.{min_of}
use Rattle.floats.proofs.scalar.min.Goals as goal

pub returns-then-a-b : goal.returns-then-a-b
unfolding min_of
returns-then-a-b c = simp c.if-a-b.true

pub returns-else-a-b : goal.returns-else-a-b
unfolding min_of
returns-else-a-b c = simp c.if-a-b.false
