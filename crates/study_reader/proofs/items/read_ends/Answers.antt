use Rattle.study_reader.specs.Items.{between, ends_line}
use Rattle.study_reader.proofs.items.read_ends.Goals as goal

pub returns-in_default : goal.returns-in_default
unfolding ends_line between
returns-in_default c = rw (← c.next_word-v.ensures, ← c.find_end.ensures, c.in_default.is)

pub returns-in_default-find_end : goal.returns-in_default-find_end
unfolding ends_line between
returns-in_default-find_end c =
    rw (← c.next_word-v.ensures, ← c.next_word-w.ensures, ← c.find_end.ensures, c.in-Some.is, ← c.find_end-2.ensures, c.in_default-find_end.is)

pub returns : goal.returns
unfolding ends_line between
returns c =
    rw (c.whole.ensures, ← c.next_word-v.ensures, ← c.next_word-w.ensures, ← c.find_end.ensures, c.in-Some.is, ← c.find_end-2.ensures, c.in-Some-find_end.is)
