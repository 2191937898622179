use borrow.Author.Tests.{eq-eqb, ne_eqb}
use Rattle.study_reader.proofs.draft.first_call.Goals as goal

pub returns-then-st-eq-CALLS : goal.returns-then-st-eq-CALLS
returns-then-st-eq-CALLS c = rw (eq-eqb _ _ c.if-st-eq-CALLS.true)

pub returns : goal.returns
returns c = rw (ne_eqb _ _ c.if-st-eq-CALLS.false)
