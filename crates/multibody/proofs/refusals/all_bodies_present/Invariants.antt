-- `all_bodies_present` meets its contract. Before turn j, the joints from j on decide.
use Rattle.multibody.specs.Refusals.{bodies_present}
use Rattle.multibody.proofs.RuleLaws.{Undecided}
use Rattle.multibody.proofs.refusals.all_bodies_present.Given as goal

abbrev pub invariant-loop-j : goal.invariant-loop-j
invariant-loop-j g l = Undecided (bodies_present (g.K.Kind.system.store) l.bodies l.words) l.n l.j
