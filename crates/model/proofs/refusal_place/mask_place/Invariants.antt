-- `mask_place` meets its contract. Before turn c, the masks from word c on decide.
use Rattle.multibody.specs.Rules.{at_most}
use Rattle.model.specs.Layout.{words_width}
use Rattle.model.specs.Records.{word}
use Rattle.model.specs.Refusals.{all_axes}
use Rattle.model.specs.RefusalPlace.{at, mask_tests}
use Rattle.model.specs.declared.refusal_place.Place.TheVariants.{JointWord}
use Rattle.model.proofs.PlaceSearch.{Unfound}
use Rattle.model.proofs.refusal_place.mask_place.Given as goal

abbrev pub invariant-loop-c : goal.invariant-loop-c
invariant-loop-c l = Unfound (λ c. at (JointWord l.j c) (at_most all_axes (word words_width l.words l.j c))) (mask_tests l.words l.j) 6 l.c
