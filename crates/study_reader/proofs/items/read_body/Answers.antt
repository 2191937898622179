use borrow.Author.Tests.{lt-ltb, le-ltb}
use Rattle.study_reader.specs.Items.{body_line, or_fault}
use Rattle.study_reader.proofs.items.read_body.Goals as goal

pub returns-in-Some : goal.returns-in-Some
unfolding body_line or_fault
returns-in-Some c = rw (← c.next_word-w.ensures, ← c.name_fault.ensures, c.in-Some.is)

pub returns-then-st-lt-MOST : goal.returns-then-st-lt-MOST
unfolding body_line or_fault
returns-then-st-lt-MOST c = rw (c.whole.ensures, ← c.next_word-w.ensures, ← c.name_fault.ensures, c.in_default.is, lt-ltb _ _ c.if-st-lt-MOST.true)

pub returns : goal.returns
unfolding body_line or_fault
returns c = rw (← c.next_word-w.ensures, ← c.name_fault.ensures, c.in_default.is, le-ltb _ _ c.if-st-lt-MOST.false)
