-- `all_centers_fit` meets its contract. Before turn j, the joints from j on decide.
use Rattle.model.specs.Refusals.{center_fits}
use Rattle.multibody.proofs.RuleLaws.{Undecided}
use Rattle.model.proofs.refusals.all_centers_fit.Given as goal

abbrev pub invariant-loop-j : goal.invariant-loop-j
invariant-loop-j l = Undecided (center_fits l.words l.numbers) l.n l.j
