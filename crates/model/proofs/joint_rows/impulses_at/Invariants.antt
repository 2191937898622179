-- `impulses_at` meets its contract. Before turn i the array holds the first i impulses, filled up to six.
use Prim.Native.Nat.{◌≤◌}
use mathlib.Core.Path.{◌≡◌}
use lib.ListN.{length}
use Rattle.floats.specs.Operators.{bits}
use Rattle.rows.specs.RowIds.{filled}
use Rattle.multibody.specs.JointRows.{impulses_at}
use Rattle.model.specs.Planar.{plane}
use Rattle.model.proofs.joint_rows.impulses_at.Given as goal

abbrev pub invariant-loop-i : goal.invariant-loop-i
invariant-loop-i l = (l.i ≤ l.n) × (length l.out ≡ 6) × (l.out ≡ filled 6 (bits 0) (impulses_at plane l.rows l.k l.i))
