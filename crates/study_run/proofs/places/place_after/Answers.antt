-- `place_after` meets its contract, by cases of the act.
use Rattle.std.proofs.Common.{inl, inr}
use Rattle.study_run.specs.Places.{place_after}
use Rattle.study_run.proofs.places.place_after.Goals as goal

pub returns-in-Nothing : goal.returns-in-Nothing
unfolding place_after
returns-in-Nothing c = elim c.in-Nothing.is [ inl e ↦ rw (e, c.moved.ensures, c.next_line.ensures) | inr w ↦ rw (w.1, c.moved.ensures, c.next_line.ensures) ]

pub returns-in-Repeat : goal.returns-in-Repeat
unfolding place_after
returns-in-Repeat c = rw c.in-Repeat.is c.after_repeat.ensures

pub returns-in-End : goal.returns-in-End
unfolding place_after
returns-in-End c = rw c.in-End.is c.after_end.ensures
