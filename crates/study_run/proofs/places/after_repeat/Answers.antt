-- `after_repeat` meets its contract.
use borrow.Author.Tests.{eq-eqb, ne_eqb}
use Rattle.study_run.specs.Places.{after_repeat}
use Rattle.study_run.proofs.places.after_repeat.Goals as goal

pub returns-then-turns-eq0 : goal.returns-then-turns-eq0
unfolding after_repeat
returns-then-turns-eq0 c = rw (c.moved.ensures, c.skip.ensures, c.next_line-next.ensures, eq-eqb _ _ c.if-turns-eq0.true)

pub returns-else-turns-eq0 : goal.returns-else-turns-eq0
unfolding after_repeat
returns-else-turns-eq0 c = rw (c.repeating.ensures, c.next_line-next.ensures, ne_eqb _ _ c.if-turns-eq0.false)
