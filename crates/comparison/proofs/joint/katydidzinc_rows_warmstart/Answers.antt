-- `katydidzinc_rows_warmstart` meets its contract. Each test decides one of the specification's; past them, what is written follows from what the callees ensure.
use borrow.Author.Tests.{le-leb, lt-leb}
use Rattle.comparison.specs.JointExports.{warmstart}
use Rattle.comparison.proofs.joint.katydidzinc_rows_warmstart.Goals as goal

pub returns-then-row-lt-ROW_WIDTH : goal.returns-then-row-lt-ROW_WIDTH
unfolding warmstart
returns-then-row-lt-ROW_WIDTH c = simp (lt-leb _ _ c.if-row-lt-ROW_WIDTH.true)

pub returns-then-vels-lt6 : goal.returns-then-vels-lt6
unfolding warmstart
returns-then-vels-lt6 c = simp (le-leb _ _ c.if-row-lt-ROW_WIDTH.false, lt-leb _ _ c.if-vels-lt6.true)

pub returns : goal.returns
unfolding warmstart
returns c =
    simp (le-leb _ _ c.if-row-lt-ROW_WIDTH.false, le-leb _ _ c.if-vels-lt6.false) (cc)
