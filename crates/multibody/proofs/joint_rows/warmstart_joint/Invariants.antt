-- `warmstart_joint` meets its contract. Before turn i, the warm starts from row i on give what all of them gave at the start.
use Prim.Native.Nat.{◌+◌, ◌-◌, ◌≤◌}
use mathlib.Core.Path.{◌≡◌}
use lib.ListN.{length}
use Rattle.multibody.specs.JointRows.{warmstart_joint}
use Rattle.multibody.proofs.joint_rows.warmstart_joint.Given as goal

abbrev pub invariant-loop-i : goal.invariant-loop-i
invariant-loop-i g l =
    (l.i ≤ l.n) × (length l.bodies ≡ length l.initial.bodies) × (warmstart_joint (g.K.Kind.system.store) l.rows (l.k + l.i) (l.n - l.i) l.b1 l.b2 l.bodies ≡ warmstart_joint (g.K.Kind.system.store) l.rows l.k l.n l.b1 l.b2 l.initial.bodies)
