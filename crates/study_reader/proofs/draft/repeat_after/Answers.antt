use borrow.Author.Tests.{eq-eqb, ne_eqb}
use Rattle.study_reader.proofs.draft.repeat_after.Goals as goal

pub returns-then-keyword-eq-REPEAT : goal.returns-then-keyword-eq-REPEAT
returns-then-keyword-eq-REPEAT c = rw (eq-eqb _ _ c.if-keyword-eq-REPEAT.true)

pub returns-then-keyword-eq-END : goal.returns-then-keyword-eq-END
returns-then-keyword-eq-END c = rw (ne_eqb _ _ c.if-keyword-eq-REPEAT.false, eq-eqb _ _ c.if-keyword-eq-END.true)

pub returns : goal.returns
returns c = rw (ne_eqb _ _ c.if-keyword-eq-REPEAT.false, ne_eqb _ _ c.if-keyword-eq-END.false)
