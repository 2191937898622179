-- `remove_bias_joint` meets its contract. Before turn i, freeing the rows from i on gives what freeing all of them gave at the start.
use Prim.Native.Nat.{◌+◌, ◌-◌, ◌≤◌}
use mathlib.Core.Path.{◌≡◌}
use lib.ListN.{length}
use Rattle.multibody.specs.JointRows.{remove_bias_joint}
use Rattle.multibody.proofs.joint_rows.remove_bias_joint.Given as goal

abbrev pub invariant-loop-i : goal.invariant-loop-i
invariant-loop-i g l =
    (l.i ≤ l.n) × (length l.rows ≡ length l.initial.rows) × (remove_bias_joint (g.K.Kind.system.store) (l.k + l.i) (l.n - l.i) l.rows ≡ remove_bias_joint (g.K.Kind.system.store) l.k l.n l.initial.rows)
