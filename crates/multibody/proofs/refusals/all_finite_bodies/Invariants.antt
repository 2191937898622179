-- `all_finite_bodies` meets its contract. Before turn i, the bodies from i on decide.
use Rattle.multibody.specs.Refusals.{finite_body}
use Rattle.multibody.proofs.RuleLaws.{Undecided}
use Rattle.multibody.proofs.refusals.all_finite_bodies.Given as goal

abbrev pub invariant-loop-i : goal.invariant-loop-i
invariant-loop-i g l = Undecided (finite_body (g.K.Kind.system) l.bodies) l.n l.i
