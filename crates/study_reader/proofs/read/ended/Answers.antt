use Rattle.study_reader.specs.Study.{left_open, ended}
use Rattle.study_reader.proofs.read.ended.Goals as goal

pub returns-then-is_some : goal.returns-then-is_some
unfolding ended left_open
returns-then-is_some c = rw (← c.is_some.ensures, c.if-is_some.true)

pub returns-in-Some : goal.returns-in-Some
unfolding ended left_open
returns-in-Some c = rw (c.faulty.ensures, ← c.is_some.ensures, c.if-is_some.false, c.in-Some.is)

pub returns : goal.returns
unfolding ended left_open
returns c = rw (← c.is_some.ensures, c.if-is_some.false, c.in_default.is)
