-- `katydidzinc_rows_remove_bias` meets its contract. Each test decides one of the specification's; past them, what is written follows from what the callees ensure.
use borrow.Author.Tests.{le-leb, lt-leb}
use Rattle.comparison.specs.JointExports.{remove_bias}
use Rattle.comparison.proofs.joint.katydidzinc_rows_remove_bias.Goals as goal

pub returns-then-row-lt-ROW_WIDTH : goal.returns-then-row-lt-ROW_WIDTH
unfolding remove_bias
returns-then-row-lt-ROW_WIDTH c = simp (lt-leb _ _ c.if-row-lt-ROW_WIDTH.true)

pub returns : goal.returns
unfolding remove_bias
returns c = simp (le-leb _ _ c.if-row-lt-ROW_WIDTH.false) (cc)
