use borrow.Author.Tests.{lt-ltb, le-ltb}
use Rattle.study_reader.specs.Items.{numbers_from, or_fault}
use Rattle.study_reader.proofs.items.read_numbers.Goals as goal

pub returns-in-Some : goal.returns-in-Some
unfolding numbers_from or_fault
returns-in-Some c = rw (← c.next_word-v.ensures, ← c.number_in-r.ensures, ← c.number_fault.ensures, c.in-Some.is)

pub returns-then-many-gt1 : goal.returns-then-many-gt1
unfolding numbers_from or_fault
returns-then-many-gt1 c = rw (c.read_second.ensures, c.value_of-x.ensures, ← c.next_word-v.ensures, ← c.number_in-r.ensures, ← c.number_fault.ensures, c.in_default.is, lt-ltb _ _ c.if-many-gt1.true)

pub returns : goal.returns
unfolding numbers_from or_fault
returns c = rw (c.whole.ensures, c.given1-n.ensures, c.value_of-x.ensures, ← c.next_word-v.ensures, ← c.number_in-r.ensures, ← c.number_fault.ensures, c.in_default.is, le-ltb _ _ c.if-many-gt1.false)
