use borrow.Author.Tests.{le-leb, lt-leb}
use Rattle.study_reader.specs.Study.{line_read}
use Rattle.study_reader.proofs.read.next_state.Goals as goal

pub returns-then-is_some : goal.returns-then-is_some
unfolding line_read
returns-then-is_some c = rw (← c.is_some.ensures, c.if-is_some.true)

pub returns-then-text-st : goal.returns-then-text-st
unfolding line_read
returns-then-text-st c = rw (← c.is_some.ensures, c.if-is_some.false, le-leb _ _ c.if-text-st.true)

pub returns : goal.returns
unfolding line_read
returns c =
    rw (← c.is_some.ensures, c.if-is_some.false, lt-leb _ _ c.if-text-st.false, ← c.read_line-change.ensures, ← c.apply-after.ensures, c.reached.ensures, c.next_line.ensures)
