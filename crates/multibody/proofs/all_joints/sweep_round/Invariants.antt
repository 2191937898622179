-- `sweep_round` meets its contract, a joint a turn.
use mathlib.Core.Path.{◌≡◌}
use lib.ListN.{length}
use Rattle.multibody.specs.JointRows.{state}
use Rattle.multibody.specs.Calls.{counted, counted_one}
use Rattle.multibody.proofs.AllJointsLaws.{Turn}
use Rattle.multibody.proofs.all_joints.sweep_round.Given as goal

abbrev pub invariant-loop-j : goal.invariant-loop-j
invariant-loop-j g l =
    Turn (g.K.Kind.system.store) (counted_one (g.K.Kind.system.store) l.words) l.words l.n (counted (state l.initial.rows l.initial.bodies) l.initial.counts) l.j l.first (counted (state l.rows l.bodies) l.counts)
    × (length l.rows ≡ length l.initial.rows) × (length l.bodies ≡ length l.initial.bodies) × (length l.counts ≡ length l.initial.counts)
