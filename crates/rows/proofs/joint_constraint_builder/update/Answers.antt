use mathlib.Core.Path.{ap, ◌∙◌}
use native.Mathlib.Omega.{arith}
use Rattle.rows.specs.Finalize.{finalize_groups}
use Rattle.rows.proofs.RowSlotsLaws.{cleared-less, motors-are}
use Rattle.rows.proofs.UpdateRows.{group-counts}
use Rattle.rows.proofs.WarmedRows.{start-start, start-turn, room, all_made, start-end, started-rows}
use Rattle.rows.proofs.joint_constraint_builder.update.Goals as goal

pub loop-left-init : goal.loop-left-init
loop-left-init c =
    let a = c.args in
    let six = c.well_formed.1.1.1.1.1.1.0.1.0.1 in
    rw (c.blank_row-rows.ensures, c.row_slots-slots.ensures)
    (start-start a.warmstart a.substep_id a.joint c.context-context.result a.prevs c.first_coupled_lin_axis_id-f.result six c.first_coupled_lin_axis_id-f.ensures)

pub offset_bounds-prevs-k : goal.offset_bounds-prevs-k
offset_bounds-prevs-k c = record { fits = omega (arith, room c.loop-left.invariant c.loop-left-test.true) }

pub bounds-prevs-k : goal.bounds-prevs-k
bounds-prevs-k c = room c.loop-left.invariant c.loop-left-test.true

pub offset_bounds-rows-k : goal.offset_bounds-rows-k
offset_bounds-rows-k c = record { fits = omega (arith, room c.loop-left.invariant c.loop-left-test.true) }

pub bounds-rows-k : goal.bounds-rows-k
bounds-rows-k c = room c.loop-left.invariant c.loop-left-test.true

pub overflow_add-k : goal.overflow_add-k
overflow_add-k c = record { fits = omega (arith, room c.loop-left.invariant c.loop-left-test.true) }

pub loop-left-smaller : goal.loop-left-smaller
loop-left-smaller c = cleared-less c.loop-left.left c.loop-left-test.true

pub loop-left-preserved : goal.loop-left-preserved
loop-left-preserved c =
    start-turn c.loop-left.invariant _
    c.loop-left-test.true (rw (c.seed.ensures, c.row.ensures, c.slot_id-id.ensures) at c.warmed.ensures)

pub finalize_lent-requires : goal.finalize_lent-requires
finalize_lent-requires c =
    let a = c.args in
    let made = all_made c.loop-left.invariant c.loop-left-test.false in
    let counts = group-counts a.joint.«data».masks in
    (omega (arith, made, counts.0, c.motors_of-first.ensures ∙ motors-are _ c.row_slots-slots.ensures), omega (arith, made, counts.1))

pub returns : goal.returns
returns c =
    let a = c.args in
    let made = all_made c.loop-left.invariant c.loop-left-test.false in
    started-rows a.params a.substep_id a.warmstart a.body1 a.body2 a.joint a.prevs c.loop-left.invariant.all-prevs (c.motors_of-first.ensures ∙ motors-are _ c.row_slots-slots.ensures) made c.context-context.ensures
    (c.finalize_lent.ensures
    ∙ ap (λ t. finalize_groups c.motors_of-first.result c.loop-left.k t)
    (start-end c.loop-left.invariant c.loop-left-test.false))
