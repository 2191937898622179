-- `at_most_six` meets its contract. The test decides the definition's.
use native.Mathlib.Omega.{arith}
use borrow.Author.Tests.{lt-ltb, le-ltb}
use Rattle.comparison.specs.JointExports.{at_most_six}
use Rattle.comparison.proofs.joint.at_most_six.Goals as goal

pub returns-then-n-lt6 : goal.returns-then-n-lt6
unfolding at_most_six
returns-then-n-lt6 c = (simp (lt-ltb _ _ c.if-n-lt6.true), omega arith)

pub returns : goal.returns
unfolding at_most_six
returns c = (simp (le-ltb _ _ c.if-n-lt6.false), omega arith)
