-- `warmstart_all` meets its contract, a joint a turn.
use mathlib.Core.Path.{◌≡◌}
use lib.ListN.{length}
use Rattle.multibody.specs.Calls.{warmstart_one}
use Rattle.multibody.proofs.AllJointsLaws.{Turn}
use Rattle.multibody.proofs.all_joints.warmstart_all.Given as goal

abbrev pub invariant-loop-j : goal.invariant-loop-j
invariant-loop-j g l = Turn (g.K.Kind.system.store) (warmstart_one (g.K.Kind.system.store) l.words l.rows) l.words l.n l.initial.bodies l.j l.first l.bodies × (length l.bodies ≡ length l.initial.bodies)
