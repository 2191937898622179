-- `letter_passes` meets its contract, by cases of the letter.
use borrow.Author.Tests.{eq-eqb, ne_eqb}
use Rattle.model.proofs.refusal_place.letter_passes.Goals as goal

pub returns-then-a-eq102 : goal.returns-then-a-eq102
returns-then-a-eq102 c = rw (eq-eqb _ _ c.if-a-eq102.true) c.is_finite.ensures

pub returns-then-a-eq110 : goal.returns-then-a-eq110
returns-then-a-eq110 c = rw (ne_eqb _ _ c.if-a-eq102.false, eq-eqb _ _ c.if-a-eq110.true, c.is_nan.ensures)

pub returns : goal.returns
returns c = rw (ne_eqb _ _ c.if-a-eq102.false, ne_eqb _ _ c.if-a-eq110.false)
