use Rattle.study_reader.specs.Items.{named_mask}
use Rattle.study_reader.proofs.items.read_named.Goals as goal

pub returns-then-is_empty : goal.returns-then-is_empty
unfolding named_mask
returns-then-is_empty c = rw (← c.is_empty.ensures, c.if-is_empty.true)

pub returns : goal.returns
unfolding named_mask
returns c = rw (c.read_axes.ensures, ← c.is_empty.ensures, c.if-is_empty.false)
