-- `write_back_joint` meets its contract. Before turn i, storing the impulses from row i on gives what storing all of them gave at the start.
use Prim.Native.Nat.{◌+◌, ◌*◌, ◌≤◌}
use mathlib.Core.Path.{◌≡◌}
use lib.ListN.{length, drop}
use Rattle.rows.specs.RowIds.{row_ids_array}
use Rattle.model.specs.Layout.{row_width}
use Rattle.multibody.specs.JointRows.{joint_ids, row_count, write_back_ids, row_masks_at}
use Rattle.model.specs.Planar.{plane}
use Rattle.model.proofs.plane.PlaneWork.write_back_joint.Given as goal

abbrev pub invariant-loop-i : goal.invariant-loop-i
invariant-loop-i l =
    (l.i ≤ l.i-end) × (l.i-end ≤ 6) × (l.i-end ≡ row_count plane l.words l.j) × ((l.k + l.i-end) * row_width ≤ length l.rows) × (length l.numbers ≡ length l.initial.numbers) × (l.ids ≡ row_ids_array (row_masks_at plane l.words l.j))
    × (write_back_ids plane l.rows (l.k + l.i) l.j (drop l.i (joint_ids plane l.words l.j)) l.numbers ≡ write_back_ids plane l.rows l.k l.j (joint_ids plane l.words l.j) l.initial.numbers)
