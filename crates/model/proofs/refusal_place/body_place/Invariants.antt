-- `body_place` meets its contract. Before turn c, the body's numbers from number c on decide.
use lib.ListN.{get_or}
use Rattle.multibody.specs.Finite.{passes}
use Rattle.multibody.specs.Finite.Asks.{free}
use Rattle.model.specs.Layout.{body_width}
use Rattle.model.specs.Records.{num}
use Rattle.model.specs.Refusals.{body_asks}
use Rattle.model.specs.RefusalPlace.{at, body_tests}
use Rattle.model.specs.declared.refusal_place.Place.TheVariants.{BodyNumber}
use Rattle.model.proofs.PlaceSearch.{Unfound}
use Rattle.model.proofs.refusal_place.body_place.Given as goal

abbrev pub invariant-loop-c : goal.invariant-loop-c
invariant-loop-c l = Unfound (λ c. at (BodyNumber l.i c) (passes (get_or body_asks c free) (num body_width l.bodies l.i c))) (body_tests l.bodies l.i) body_width l.c
