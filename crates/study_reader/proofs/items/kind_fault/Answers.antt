use borrow.Author.Tests.{eq-eqb, ne_eqb}
use Rattle.study_reader.specs.Items.{kind_fault}
use Rattle.study_reader.proofs.items.kind_fault.Goals as goal

pub returns-then-st-eq-CALLS : goal.returns-then-st-eq-CALLS
unfolding kind_fault
returns-then-st-eq-CALLS c = rw (eq-eqb _ _ c.if-st-eq-CALLS.true)

pub returns-then-st-kind : goal.returns-then-st-kind
unfolding kind_fault
returns-then-st-kind c = rw (ne_eqb _ _ c.if-st-eq-CALLS.false, eq-eqb _ _ c.if-st-kind.true)

pub returns : goal.returns
unfolding kind_fault
returns c = rw (ne_eqb _ _ c.if-st-eq-CALLS.false, ne_eqb _ _ c.if-st-kind.false)
