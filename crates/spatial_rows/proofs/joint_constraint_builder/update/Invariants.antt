-- The builder's `update` meets its contract. The loop keeps `Starting`: the rows before k are made and have the impulses that they start from.
use Rattle.rows.proofs.WarmedRows.{Starting}
use Rattle.spatial_rows.proofs.WarmedRows.{building}
use Rattle.spatial_rows.proofs.joint_constraint_builder.update.Given as goal

abbrev pub invariant-loop-left : goal.invariant-loop-left
invariant-loop-left l =
    Starting (building l.warmstart l.substep_id l.joint l.context l.prevs) l.made.rows l.left l.k

abbrev pub decreases-loop-left : goal.decreases-loop-left
decreases-loop-left l = l.left
