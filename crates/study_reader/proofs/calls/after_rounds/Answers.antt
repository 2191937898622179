use Rattle.study_reader.specs.Calls.{after_rounds}
use Rattle.study_reader.proofs.calls.after_rounds.Goals as goal

pub returns-then-is_some : goal.returns-then-is_some
unfolding after_rounds
returns-then-is_some c = rw (← c.is_some.ensures, c.if-is_some.true)

pub returns : goal.returns
unfolding after_rounds
returns c = rw (c.read_substeps.ensures, c.with_sweeps.ensures, ← c.is_some.ensures, c.if-is_some.false)
