use Rattle.study_reader.specs.Calls.{place_of}
use Rattle.study_reader.proofs.calls.read_place.Goals as goal

pub returns-then-is_some : goal.returns-then-is_some
unfolding place_of
returns-then-is_some c = rw (← c.read_body-r.ensures, ← c.is_some.ensures, c.if-is_some.true)

pub returns : goal.returns
unfolding place_of
returns c = rw (c.read_pose.ensures, ← c.read_body-r.ensures, ← c.is_some.ensures, c.if-is_some.false)
