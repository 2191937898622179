use borrow.Author.Tests.{eq-eqb, ne_eqb}
use Rattle.study_reader.proofs.calls.bit_of.Goals as goal

pub returns-then-axis-eq0 : goal.returns-then-axis-eq0
returns-then-axis-eq0 c = rw (eq-eqb _ _ c.if-axis-eq0.true)

pub returns-then-axis-eq1 : goal.returns-then-axis-eq1
returns-then-axis-eq1 c = rw (ne_eqb _ _ c.if-axis-eq0.false, eq-eqb _ _ c.if-axis-eq1.true)

pub returns : goal.returns
returns c = rw (ne_eqb _ _ c.if-axis-eq0.false, ne_eqb _ _ c.if-axis-eq1.false)
