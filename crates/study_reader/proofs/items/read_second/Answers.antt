use Rattle.study_reader.specs.Items.{second_number, or_fault}
use Rattle.study_reader.proofs.items.read_second.Goals as goal

pub returns-in-Some : goal.returns-in-Some
unfolding second_number or_fault
returns-in-Some c = rw (← c.next_word-w.ensures, ← c.number_in-r.ensures, ← c.number_fault.ensures, c.in-Some.is)

pub returns : goal.returns
unfolding second_number or_fault
returns c = rw (c.whole.ensures, c.given2-n.ensures, c.value_of.ensures, ← c.next_word-w.ensures, ← c.number_in-r.ensures, ← c.number_fault.ensures, c.in_default.is)
