-- `remove_bias_all` meets its contract, a joint a turn.
use mathlib.Core.Path.{◌≡◌}
use lib.ListN.{length}
use Rattle.multibody.specs.Calls.{remove_bias_one}
use Rattle.multibody.proofs.AllJointsLaws.{Turn}
use Rattle.multibody.proofs.all_joints.remove_bias_all.Given as goal

abbrev pub invariant-loop-j : goal.invariant-loop-j
invariant-loop-j g l = Turn (g.K.Kind.system.store) (remove_bias_one (g.K.Kind.system.store) l.words) l.words l.n l.initial.rows l.j l.first l.rows × (length l.rows ≡ length l.initial.rows)
