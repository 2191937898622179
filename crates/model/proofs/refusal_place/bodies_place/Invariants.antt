-- `bodies_place` meets its contract. Before turn i, the bodies from body i on decide.
use Rattle.multibody.specs.Counts.{body_count}
use Rattle.model.specs.Planar.{plane}
use Rattle.model.specs.RefusalPlace.{each, body_tests}
use Rattle.model.proofs.PlaceSearch.{Unfound}
use Rattle.model.proofs.refusal_place.bodies_place.Given as goal

abbrev pub invariant-loop-i : goal.invariant-loop-i
invariant-loop-i l = Unfound (body_tests l.bodies) (each 0 (body_count plane l.bodies) (body_tests l.bodies)) l.n l.i
