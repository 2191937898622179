-- `setting_place` meets its contract, by the rule's number.
use borrow.Author.Tests.{eq-eqb, ne_eqb}
use Rattle.model.specs.RefusalPlace.{broken, setting_tests}
use Rattle.model.proofs.refusal_place.setting_place.Goals as goal

pub returns-then-k-eq6 : goal.returns-then-k-eq6
unfolding setting_tests
returns-then-k-eq6 c = rw (eq-eqb _ _ c.if-k-eq6.true) c.finite_place.ensures

pub returns-then-k-eq7 : goal.returns-then-k-eq7
unfolding setting_tests
returns-then-k-eq7 c = rw (ne_eqb _ _ c.if-k-eq6.false, eq-eqb _ _ c.if-k-eq7.true) c.step_place.ensures

pub returns : goal.returns
unfolding setting_tests broken
returns c = rw (ne_eqb _ _ c.if-k-eq6.false, ne_eqb _ _ c.if-k-eq7.false)
