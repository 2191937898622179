-- `slot_axis` meets its contract.
use borrow.Author.Rules.{rules}
use Rattle.rows.specs.RowSlots.{slot_axis}
use Rattle.rows.proofs.RowSlotsLaws.{axis-mid, axis-last}
use Rattle.rows.proofs.row_ids.slot_axis.Goals as goal

pub returns-then-i-eq0 : goal.returns-then-i-eq0
unfolding slot_axis
returns-then-i-eq0 c = rw c.if-i-eq0.true

pub returns-then-i-lt3 : goal.returns-then-i-lt3
returns-then-i-lt3 c = let a = c.args in axis-mid a.i a.f (search rules) (search rules)

pub returns-else-i-lt3 : goal.returns-else-i-lt3
returns-else-i-lt3 c = let a = c.args in axis-last a.i a.f (search rules)
