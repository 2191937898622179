use mathlib.Core.Path.{ap}
use native.Mathlib.Omega.{arith}
use Rattle.rows.specs.RowIds.{row_id}
use Rattle.rows.proofs.RowSlotsLaws.{cleared-less}
use Rattle.rows.proofs.ListedIds.{room, listed_start, listed-turn, all_listed, listed-end, listed-array}
use Rattle.rows.proofs.row_ids.row_ids.Goals as goal

pub loop-left-init : goal.loop-left-init
loop-left-init c = rw c.row_slots-left.ensures (listed_start c.args.masks c.first_coupled_lin_axis_id-f.result c.first_coupled_lin_axis_id-f.ensures)

pub offset_bounds-ids-k : goal.offset_bounds-ids-k
offset_bounds-ids-k c = record { fits = omega (arith, room c.loop-left.invariant c.loop-left-test.true) }

pub bounds-ids-k : goal.bounds-ids-k
bounds-ids-k c = room c.loop-left.invariant c.loop-left-test.true

pub overflow_add-k : goal.overflow_add-k
overflow_add-k c = record { fits = omega (arith, room c.loop-left.invariant c.loop-left-test.true) }

pub loop-left-smaller : goal.loop-left-smaller
loop-left-smaller c = cleared-less c.loop-left.left c.loop-left-test.true

pub loop-left-preserved : goal.loop-left-preserved
loop-left-preserved c = listed-turn c.loop-left.invariant c.loop-left-test.true (ap row_id c.slot_id-id.ensures)

pub returns : goal.returns
returns c =
    let l = c.loop-left in
    let h = c.loop-left-test.false in
    listed-array c.args.masks l.ids c.motor_count-first.result l.k (listed-end l.invariant h) c.motor_count-first.ensures (all_listed l.invariant h)
