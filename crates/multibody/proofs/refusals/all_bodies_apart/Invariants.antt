-- `all_bodies_apart` meets its contract. Before turn j, the joints from j on decide.
use Rattle.multibody.specs.Refusals.{bodies_apart}
use Rattle.multibody.proofs.RuleLaws.{Undecided}
use Rattle.multibody.proofs.refusals.all_bodies_apart.Given as goal

abbrev pub invariant-loop-j : goal.invariant-loop-j
invariant-loop-j g l = Undecided (bodies_apart (g.K.Kind.system.store) l.words) l.n l.j
