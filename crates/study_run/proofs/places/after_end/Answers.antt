-- `after_end` meets its contract.
use borrow.Author.Tests.{eq-eqb, ne_eqb}
use Rattle.study_run.specs.Places.{after_end}
use Rattle.study_run.proofs.places.after_end.Goals as goal

pub returns-then-p-eq0 : goal.returns-then-p-eq0
unfolding after_end
returns-then-p-eq0 c = rw (c.moved.ensures, c.next_line.ensures, eq-eqb _ _ c.if-p-eq0.true)

pub returns-else-p-eq0 : goal.returns-else-p-eq0
unfolding after_end
returns-else-p-eq0 c = rw (c.repeating.ensures, ne_eqb _ _ c.if-p-eq0.false)
