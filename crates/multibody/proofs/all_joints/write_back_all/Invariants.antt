-- `write_back_all` meets its contract, a joint a turn.
use mathlib.Core.Path.{◌≡◌}
use lib.ListN.{length}
use Rattle.multibody.specs.Calls.{write_back_one}
use Rattle.multibody.proofs.AllJointsLaws.{Turn}
use Rattle.multibody.proofs.all_joints.write_back_all.Given as goal

abbrev pub invariant-loop-j : goal.invariant-loop-j
invariant-loop-j g l = Turn (g.K.Kind.system.store) (write_back_one (g.K.Kind.system.store) l.rows l.words) l.words l.n l.initial.numbers l.j l.first l.numbers × (length l.numbers ≡ length l.initial.numbers)
