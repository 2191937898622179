use Rattle.study_reader.specs.Calls.{mask_step}
use Rattle.study_reader.proofs.calls.mask_step.Goals as goal

pub returns-then-is_some : goal.returns-then-is_some
unfolding mask_step
returns-then-is_some c = rw (← c.is_some.ensures, c.if-is_some.true)

pub returns-then-is_empty : goal.returns-then-is_empty
unfolding mask_step
returns-then-is_empty c = rw (← c.is_some.ensures, c.if-is_some.false, ← c.next_word-w.ensures, ← c.is_empty.ensures, c.if-is_empty.true)

pub returns : goal.returns
unfolding mask_step
returns c = rw (c.mask_word.ensures, ← c.is_some.ensures, c.if-is_some.false, ← c.next_word-w.ensures, ← c.is_empty.ensures, c.if-is_empty.false)
