use Rattle.study_reader.specs.Items.{call_line, or_fault_there}
use Rattle.study_reader.proofs.items.read_call_line.Goals as goal

pub returns-in-Some : goal.returns-in-Some
unfolding call_line or_fault_there
returns-in-Some c = rw (← c.is_some.ensures, ← c.read_call-l.ensures, c.in-Some.is)

pub returns : goal.returns
unfolding call_line or_fault_there
returns c = rw (c.whole.ensures, ← c.is_some.ensures, ← c.read_call-l.ensures, c.in_default.is)
