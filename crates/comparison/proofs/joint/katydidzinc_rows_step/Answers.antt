-- `katydidzinc_rows_step` meets its contract. Each test decides one of the specification's; past them, what is written follows from what the callees ensure.
use borrow.Author.Tests.{le-leb, lt-leb}
use Rattle.comparison.specs.JointExports.{step_row, step_vels, step_side}
use Rattle.comparison.proofs.joint.katydidzinc_rows_step.Goals as goal

pub returns-then-row-lt-ROW_WIDTH : goal.returns-then-row-lt-ROW_WIDTH
unfolding step_row step_vels step_side
returns-then-row-lt-ROW_WIDTH c = record { value = simp (lt-leb _ _ c.if-row-lt-ROW_WIDTH.true); row_after = simp (lt-leb _ _ c.if-row-lt-ROW_WIDTH.true); vels_after = simp (lt-leb _ _ c.if-row-lt-ROW_WIDTH.true) }

pub returns-then-vels-lt6 : goal.returns-then-vels-lt6
unfolding step_row step_vels step_side
returns-then-vels-lt6 c = record { value = simp (le-leb _ _ c.if-row-lt-ROW_WIDTH.false, lt-leb _ _ c.if-vels-lt6.true); row_after = simp (le-leb _ _ c.if-row-lt-ROW_WIDTH.false, lt-leb _ _ c.if-vels-lt6.true); vels_after = simp (le-leb _ _ c.if-row-lt-ROW_WIDTH.false, lt-leb _ _ c.if-vels-lt6.true) }

pub returns : goal.returns
unfolding step_row step_vels step_side
returns c =
    record { value = simp (le-leb _ _ c.if-row-lt-ROW_WIDTH.false, le-leb _ _ c.if-vels-lt6.false) (cc); row_after = simp (le-leb _ _ c.if-row-lt-ROW_WIDTH.false, le-leb _ _ c.if-vels-lt6.false) (cc); vels_after = simp (le-leb _ _ c.if-row-lt-ROW_WIDTH.false, le-leb _ _ c.if-vels-lt6.false) (cc) }
