-- `all_masks_fit` meets its contract. Before turn j, the joints from j on decide.
use Rattle.spatial_model.specs.Refusals.{masks_fit}
use Rattle.multibody.proofs.RuleLaws.{Undecided}
use Rattle.spatial_model.proofs.refusals.all_masks_fit.Given as goal

abbrev pub invariant-loop-j : goal.invariant-loop-j
invariant-loop-j l = Undecided (masks_fit l.words) l.n l.j
