-- `sweep_joint` meets its contract. Before turn i, stepping the rows from i on gives what stepping all of them gave at the start, and the count with what is left to
-- count is what all of them count.
use Prim.Native.Nat.{◌+◌, ◌-◌, ◌≤◌}
use mathlib.Core.Path.{◌≡◌}
use lib.ListN.{length}
use Rattle.multibody.specs.JointRows.{state, sweep_joint, count_rows}
use Rattle.multibody.proofs.joint_rows.sweep_joint.Given as goal

abbrev pub invariant-loop-i : goal.invariant-loop-i
invariant-loop-i g l =
    (l.i ≤ l.n) × (length l.rows ≡ length l.initial.rows) × (length l.bodies ≡ length l.initial.bodies) × (sweep_joint (g.K.Kind.system.store) (l.k + l.i) (l.n - l.i) l.b1 l.b2 (state l.rows l.bodies) ≡ sweep_joint (g.K.Kind.system.store) l.k l.n l.b1 l.b2 (state l.initial.rows l.initial.bodies))
    × (l.count ≤ l.i) × (l.count + count_rows (g.K.Kind.system.store) (l.motors - l.i) (l.k + l.i) (l.n - l.i) l.b1 l.b2 (state l.rows l.bodies) ≡ count_rows (g.K.Kind.system.store) l.motors l.k l.n l.b1 l.b2 (state l.initial.rows l.initial.bodies))
