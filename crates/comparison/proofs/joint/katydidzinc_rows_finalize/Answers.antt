-- `katydidzinc_rows_finalize` meets its contract. The test decides the specification's; past it, what is written follows from what the callees ensure.
use borrow.Author.Tests.{le-leb, lt-leb}
use Rattle.comparison.specs.JointExports.{finalize}
use Rattle.comparison.proofs.joint.katydidzinc_rows_finalize.Goals as goal

pub returns-then-rows-lt108 : goal.returns-then-rows-lt108
unfolding finalize
returns-then-rows-lt108 c = simp (lt-leb _ _ c.if-rows-lt108.true)

pub returns : goal.returns
unfolding finalize
returns c = simp (le-leb _ _ c.if-rows-lt108.false) (cc)
