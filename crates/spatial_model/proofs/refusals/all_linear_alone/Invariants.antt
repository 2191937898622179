-- `all_linear_alone` meets its contract. Before turn j, the joints from j on decide.
use Rattle.spatial_model.specs.Refusals.{linear_alone}
use Rattle.multibody.proofs.RuleLaws.{Undecided}
use Rattle.spatial_model.proofs.refusals.all_linear_alone.Given as goal

abbrev pub invariant-loop-j : goal.invariant-loop-j
invariant-loop-j l = Undecided (linear_alone l.words) l.n l.j
