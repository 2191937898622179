-- `max` meets its contract: each answer is the case that the test left.
use Rattle.floats.specs.Scalar.{max_of}
use Rattle.floats.proofs.scalar.max.Goals as goal

pub returns-then-a-b : goal.returns-then-a-b
unfolding max_of
returns-then-a-b c = simp c.if-a-b.true

pub returns-else-a-b : goal.returns-else-a-b
unfolding max_of
returns-else-a-b c = simp c.if-a-b.false
