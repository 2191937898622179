-- `slot_id` meets its contract: each answer is the case that the tests left.
use borrow.Author.Tests.{lt-ltb, le-ltb}
use Rattle.spatial_rows.specs.RowSlots.{slot_id}
use Rattle.spatial_rows.proofs.row_ids.slot_id.Goals as goal

pub returns-then-s-lt3 : goal.returns-then-s-lt3
unfolding slot_id
returns-then-s-lt3 c = rw (lt-ltb _ _ c.if-s-lt3.true)

pub returns-then-s-lt6 : goal.returns-then-s-lt6
unfolding slot_id
returns-then-s-lt6 c = rw (le-ltb _ _ c.if-s-lt3.false, lt-ltb _ _ c.if-s-lt6.true)

pub returns-then-s-lt9 : goal.returns-then-s-lt9
unfolding slot_id
returns-then-s-lt9 c = rw (le-ltb _ _ c.if-s-lt3.false, le-ltb _ _ c.if-s-lt6.false, lt-ltb _ _ c.if-s-lt9.true)

pub returns-else-s-lt9 : goal.returns-else-s-lt9
unfolding slot_id
returns-else-s-lt9 c = rw (le-ltb _ _ c.if-s-lt3.false, le-ltb _ _ c.if-s-lt6.false, le-ltb _ _ c.if-s-lt9.false)
