-- `at_most_nine` meets its contract. The test decides the definition's.
use native.Mathlib.Omega.{arith}
use borrow.Author.Tests.{lt-ltb, le-ltb}
use Rattle.spatial_comparison.proofs.joint.at_most_nine.Goals as goal

pub returns-then-n-lt9 : goal.returns-then-n-lt9
returns-then-n-lt9 c = (simp (lt-ltb _ _ c.if-n-lt9.true), omega arith)

pub returns : goal.returns
returns c = (simp (le-ltb _ _ c.if-n-lt9.false), omega arith)
