use mathlib.Core.Path.{ap}
use native.Mathlib.Omega.{arith}
use Rattle.rows.specs.RowIds.{row_id}
use Rattle.rows.proofs.RowSlotsLaws.{cleared-less}
use Rattle.rows.proofs.ListedIds.{room, listed-turn, all_listed, listed-end}
use Rattle.spatial_rows.proofs.ListedIds.{listed_start, listed-array}
use Rattle.spatial_rows.proofs.row_ids.row_ids.Goals as goal

pub loop-left-init : goal.loop-left-init
loop-left-init c = rw c.row_slots-left.ensures (listed_start c.args.masks)

pub offset_bounds-ids-k : goal.offset_bounds-ids-k
offset_bounds-ids-k c = record { fits = omega (arith, room c.loop-left.invariant c.loop-left-test.true) }

pub bounds-ids-k : goal.bounds-ids-k
bounds-ids-k c = room c.loop-left.invariant c.loop-left-test.true

pub overflow_add-k : goal.overflow_add-k
overflow_add-k c = record { fits = omega (arith, room c.loop-left.invariant c.loop-left-test.true) }

pub loop-left-smaller : goal.loop-left-smaller
loop-left-smaller c = cleared-less c.loop-left.left c.loop-left-test.true

pub loop-left-preserved : goal.loop-left-preserved
loop-left-preserved c = listed-turn c.loop-left.invariant c.loop-left-test.true (ap row_id c.slot_id-id.ensures)

pub returns : goal.returns
returns c =
    let h = c.loop-left-test.false in
    listed-array c.args.masks c.loop-left.ids c.motor_count-first.result c.loop-left.k (listed-end c.loop-left.invariant h) c.motor_count-first.ensures (all_listed c.loop-left.invariant h)
