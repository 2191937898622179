-- `all_bodies_place` meets its contract: rule 6 alone looks at bodies.
use borrow.Author.Tests.{eq-eqb, ne_eqb}
use Rattle.model.specs.RefusalPlace.{broken, all_body_tests}
use Rattle.model.proofs.refusal_place.all_bodies_place.Goals as goal

pub returns-then-k-eq6 : goal.returns-then-k-eq6
unfolding all_body_tests
returns-then-k-eq6 c = rw (eq-eqb _ _ c.if-k-eq6.true) c.bodies_place.ensures

pub returns : goal.returns
unfolding all_body_tests broken
returns c = rw (ne_eqb _ _ c.if-k-eq6.false)
