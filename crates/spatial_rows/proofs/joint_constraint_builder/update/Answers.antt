use mathlib.Core.Path.{ap, ◌∙◌}
use native.Mathlib.Omega.{arith}
use Rattle.spatial_rows.specs.Finalize.{finalize_groups}
use Rattle.rows.proofs.RowSlotsLaws.{cleared-less}
use Rattle.rows.proofs.WarmedRows.{start-turn, room, all_made, start-end}
use Rattle.spatial_rows.proofs.RowSlotsLaws.{motors-are}
use Rattle.spatial_rows.proofs.UpdateRows.{group-counts}
use Rattle.spatial_rows.proofs.WarmedRows.{start-start, started-rows}
use Rattle.spatial_rows.proofs.joint_constraint_builder.update.Goals as goal

pub loop-left-init : goal.loop-left-init
loop-left-init c =
    let nine = c.well_formed.1.1.1.1.1.1.0.1.0.1 in
    rw (c.blank_row.ensures, c.row_slots-slots.ensures)
    (start-start c.args.warmstart c.args.substep_id c.args.joint c.context-context.result c.args.prevs nine)

pub offset_bounds-prevs-k : goal.offset_bounds-prevs-k
offset_bounds-prevs-k c = record { fits = omega (arith, room c.loop-left.invariant c.loop-left-test.true) }

pub bounds-prevs-k : goal.bounds-prevs-k
bounds-prevs-k c = room c.loop-left.invariant c.loop-left-test.true

pub bounds-made-k : goal.bounds-made-k
bounds-made-k c = room c.loop-left.invariant c.loop-left-test.true

pub overflow_add-k : goal.overflow_add-k
overflow_add-k c = record { fits = omega (arith, room c.loop-left.invariant c.loop-left-test.true) }

pub loop-left-smaller : goal.loop-left-smaller
loop-left-smaller c = cleared-less c.loop-left.left c.loop-left-test.true

pub loop-left-preserved : goal.loop-left-preserved
loop-left-preserved c =
    start-turn c.loop-left.invariant _
    c.loop-left-test.true (rw (c.seed.ensures, c.row.ensures, c.slot_id-id.ensures) at c.warmed.ensures)

pub finalize_lent-requires : goal.finalize_lent-requires
finalize_lent-requires c =
    let made = all_made c.loop-left.invariant c.loop-left-test.false in
    let counts = group-counts c.args.joint.«data».masks in
    (omega (arith, made, counts.0, c.motors_of-first.ensures ∙ motors-are _ c.row_slots-slots.ensures), omega (arith, made, counts.1))

pub returns : goal.returns
returns c =
    let made = all_made c.loop-left.invariant c.loop-left-test.false in
    started-rows c.args.params c.args.substep_id c.args.warmstart c.args.body1 c.args.body2 c.args.joint c.args.prevs c.loop-left.invariant.all-prevs (c.motors_of-first.ensures ∙ motors-are _ c.row_slots-slots.ensures) made c.context-context.ensures
    (c.finalize_lent.ensures
    ∙ ap (λ t. finalize_groups c.motors_of-first.result c.loop-left.k t)
    (start-end c.loop-left.invariant c.loop-left-test.false))
