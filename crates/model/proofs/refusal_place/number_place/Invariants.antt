-- `number_place` meets its contract. Before turn c, the joint's numbers from number c on decide.
use lib.ListN.{get_or}
use Rattle.multibody.specs.Finite.{passes}
use Rattle.multibody.specs.Finite.Asks.{free}
use Rattle.model.specs.Layout.{numbers_width}
use Rattle.model.specs.Records.{num}
use Rattle.model.specs.Planar.{planar}
use Rattle.model.specs.RefusalPlace.{at, number_tests}
use Rattle.model.specs.declared.refusal_place.Place.TheVariants.{JointNumber}
use Rattle.model.proofs.PlaceSearch.{Unfound}
use Rattle.model.proofs.refusal_place.number_place.Given as goal

abbrev pub invariant-loop-c : goal.invariant-loop-c
invariant-loop-c l =
    Unfound (λ c. at (JointNumber l.j c) (passes (get_or (planar.joint_asks l.words l.j) c free) (num numbers_width l.numbers l.j c))) (number_tests l.words l.numbers l.j) numbers_width l.c
