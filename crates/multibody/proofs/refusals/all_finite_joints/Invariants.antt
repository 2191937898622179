-- `all_finite_joints` meets its contract. Before turn j, the joints from j on decide.
use Rattle.multibody.specs.Refusals.{finite_joint}
use Rattle.multibody.proofs.RuleLaws.{Undecided}
use Rattle.multibody.proofs.refusals.all_finite_joints.Given as goal

abbrev pub invariant-loop-j : goal.invariant-loop-j
invariant-loop-j g l = Undecided (finite_joint (g.K.Kind.system) l.words l.numbers) l.n l.j
