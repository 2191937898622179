-- `put_rows` meets its contract. Before turn i, storing the rows from i on gives what storing all of them gave at the start.
use Prim.Native.Nat.{◌+◌, ◌≤◌}
use mathlib.Core.Path.{◌≡◌}
use lib.ListN.{length, take, drop}
use Rattle.multibody.specs.JointRows.{put_rows}
use Rattle.model.specs.Planar.{plane}
use Rattle.model.proofs.joint_rows.put_rows.Given as goal

abbrev pub invariant-loop-i : goal.invariant-loop-i
invariant-loop-i l = (l.i ≤ l.made.len) × (l.made.len ≤ length l.made.rows) × (length l.rows ≡ length l.initial.rows) × (put_rows plane l.rows (l.k + l.i) (drop l.i (take l.made.len l.made.rows)) ≡ put_rows plane l.initial.rows l.k (take l.made.len l.made.rows))
