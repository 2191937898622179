-- `turn` meets its contract, by those of its parts.
use borrow.Author.Tests.{le-leb, lt-leb}
use Rattle.study_run.specs.Turns.{turn_of}
use Rattle.study_run.proofs.turns.turn.Goals as goal

pub returns-then-text-place : goal.returns-then-text-place
unfolding turn_of
returns-then-text-place c = rw (le-leb _ _ c.if-text-place.true)

pub returns : goal.returns
unfolding turn_of
returns c = rw (lt-leb _ _ c.if-text-place.false, ← c.act_at-act.ensures, ← c.place_after-next.ensures) c.act_on.ensures
