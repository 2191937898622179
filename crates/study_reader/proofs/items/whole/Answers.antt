use Rattle.study_reader.specs.Items.{whole}
use Rattle.study_reader.proofs.items.whole.Goals as goal

pub returns-then-is_empty : goal.returns-then-is_empty
unfolding whole
returns-then-is_empty c = rw (← c.next_word-w.ensures, ← c.is_empty.ensures, c.if-is_empty.true)

pub returns : goal.returns
unfolding whole
returns c = rw (← c.next_word-w.ensures, ← c.is_empty.ensures, c.if-is_empty.false)
