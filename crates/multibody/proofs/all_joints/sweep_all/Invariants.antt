-- `sweep_all` meets its contract, a round a turn: before each turn, the rounds that are left give what all n gave at the start.
use Prim.Native.Nat.{◌-◌, ◌≤◌}
use mathlib.Core.Path.{◌≡◌}
use lib.ListN.{length}
use Rattle.multibody.specs.JointRows.{state}
use Rattle.multibody.specs.Counts.{joint_count}
use Rattle.multibody.specs.Calls.{rounds, counted, counted_round}
use Rattle.multibody.proofs.all_joints.sweep_all.Given as goal

abbrev pub invariant-loop-round : goal.invariant-loop-round
invariant-loop-round g l =
    (l._round ≤ l.n) × (length l.bodies ≡ length l.initial.bodies) × (length l.rows ≡ length l.initial.rows) × (length l.counts ≡ length l.initial.counts)
    × (rounds (counted_round (g.K.Kind.system.store) l.words (joint_count (g.K.Kind.system.store) l.words l.numbers)) (l.n - l._round) (counted (state l.rows l.bodies) l.counts)
    ≡ rounds (counted_round (g.K.Kind.system.store) l.words (joint_count (g.K.Kind.system.store) l.words l.numbers)) l.n (counted (state l.initial.rows l.initial.bodies) l.initial.counts))
