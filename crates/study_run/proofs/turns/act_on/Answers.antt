-- `act_on` meets its contract, by cases of the act.
use Rattle.std.proofs.Common.{inl, inr}
use Rattle.study_run.specs.Turns.{acted_on}
use Rattle.study_run.proofs.PlaceLaws.{acted-call}
use Rattle.study_run.proofs.turns.act_on.Goals as goal

pub returns-in-Nothing : goal.returns-in-Nothing
unfolding acted_on
returns-in-Nothing c = elim c.in-Nothing.is [ inl e ↦ rw e | inr o ↦ elim o [ inl w ↦ rw w.1 | inr e ↦ rw e ] ]

pub returns-in-Call : goal.returns-in-Call
returns-in-Call c = rw c.in-Call.is (acted-call _ _ _ _ c.run_call-done.ensures)
