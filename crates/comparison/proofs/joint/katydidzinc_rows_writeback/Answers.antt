-- `katydidzinc_rows_writeback` meets its contract. The test decides the specification's; past it, what is written follows from what the callees ensure.
use borrow.Author.Tests.{le-leb, lt-leb}
use Rattle.model.proofs.SingleRecordsLaws.{seed-there}
use Rattle.comparison.specs.JointExports.{writeback}
use Rattle.comparison.proofs.joint.katydidzinc_rows_writeback.Goals as goal

pub returns-then-numbers-lt-NUMBERS_WIDTH : goal.returns-then-numbers-lt-NUMBERS_WIDTH
unfolding writeback
returns-then-numbers-lt-NUMBERS_WIDTH c = simp (lt-leb _ _ c.if-numbers-lt-NUMBERS_WIDTH.true)

pub returns : goal.returns
unfolding writeback
returns c =
    let h = c.if-numbers-lt-NUMBERS_WIDTH.false in
    simp (le-leb _ _ h) (cc (seed-there _ 0 _ _ h))
