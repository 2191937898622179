-- `build_all` meets its contract, a joint a turn; the first row past all joints' rows is their number.
use mathlib.Core.Path.{◌≡◌}
use lib.ListN.{length}
use Rattle.multibody.specs.Model.{model}
use Rattle.multibody.specs.Calls.{build_one}
use Rattle.multibody.proofs.AllJointsLaws.{Turn}
use Rattle.multibody.proofs.all_joints.build_all.Given as goal

abbrev pub invariant-loop-j : goal.invariant-loop-j
invariant-loop-j g l =
    Turn (g.K.Kind.system.store) (build_one (g.K.Kind.system.store) (model l.header.params l.header.built l.bodies l.words l.numbers) l.warmstart l.substep_id) l.words l.joints l.initial.rows l.j l.first l.rows × (length l.rows ≡ length l.initial.rows)
