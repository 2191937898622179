-- `clamp` meets its contract: each answer is the case that the tests left.
use Rattle.floats.specs.Scalar.{clamp_of, side_of, clamped_of}
use Rattle.floats.proofs.scalar.clamp.Goals as goal

pub returns-then-x-low : goal.returns-then-x-low
unfolding clamped_of clamp_of side_of
returns-then-x-low c = simp c.if-x-low.true

pub returns-then-x-high : goal.returns-then-x-high
unfolding clamped_of clamp_of side_of
returns-then-x-high c = simp (c.if-x-low.false, c.if-x-high.true)

pub returns : goal.returns
unfolding clamped_of clamp_of side_of
returns c = simp (c.if-x-low.false, c.if-x-high.false)
