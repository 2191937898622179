-- `grow` meets its contract: up to the largest size the number grows.
use Rattle.std.proofs.Common.{le-leb}
use borrow.Author.Tests.{lt-leb}
use Rattle.motor_table.specs.Scan.{grown}
use Rattle.motor_table.proofs.whole_number.grow.Goals as goal

pub returns-then-size-le-LARGEST_SIZE : goal.returns-then-size-le-LARGEST_SIZE
unfolding grown
returns-then-size-le-LARGEST_SIZE c = simp (le-leb _ _ c.if-size-le-LARGEST_SIZE.true)

pub returns : goal.returns
unfolding grown
returns c = simp (lt-leb _ _ c.if-size-le-LARGEST_SIZE.false)
