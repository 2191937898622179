-- `rows_from` meets its contract. Before turn i the array holds the first i rows, filled up to six.
use Prim.Native.Nat.{◌≤◌}
use mathlib.Core.Path.{◌≡◌}
use lib.ListN.{length}
use Rattle.rows.specs.RowIds.{filled}
use Rattle.rows.specs.Update.{blank_row}
use Rattle.multibody.specs.Calls.{rows_from}
use Rattle.model.specs.Planar.{plane}
use Rattle.model.proofs.all_joints.rows_from.Given as goal

abbrev pub invariant-loop-i : goal.invariant-loop-i
invariant-loop-i l = (l.i ≤ l.n) × (length l.out ≡ 6) × (l.out ≡ filled 6 blank_row (rows_from plane l.rows l.k l.i))
