-- `slot_id` meets its contract: each answer is the case that the tests left.
use borrow.Author.Tests.{lt-ltb, le-ltb}
use Rattle.rows.specs.RowSlots.{slot_id}
use Rattle.rows.proofs.row_ids.slot_id.Goals as goal

pub returns-then-s-lt4 : goal.returns-then-s-lt4
unfolding slot_id
returns-then-s-lt4 c = rw (lt-ltb _ _ c.if-s-lt4.true, c.slot_axis.ensures)

pub returns-then-s-lt7 : goal.returns-then-s-lt7
unfolding slot_id
returns-then-s-lt7 c = rw (le-ltb _ _ c.if-s-lt4.false, lt-ltb _ _ c.if-s-lt7.true, c.slot_axis-then-s-lt7.ensures)

pub returns-else-s-lt7 : goal.returns-else-s-lt7
unfolding slot_id
returns-else-s-lt7 c = rw (le-ltb _ _ c.if-s-lt4.false, le-ltb _ _ c.if-s-lt7.false, c.slot_axis-else-s-lt7.ensures)
