-- `calls_at` meets its contract.
use borrow.Author.Tests.{eq-eqb, ne_eqb}
use Rattle.study_capi.specs.StudyExports.{calls_at}
use Rattle.study_capi.proofs.read.calls_at.Goals as goal

pub returns-then-st-eq-CALLS : goal.returns-then-st-eq-CALLS
unfolding calls_at
returns-then-st-eq-CALLS c = rw (eq-eqb _ _ c.if-st-eq-CALLS.true)

pub returns-else-st-eq-CALLS : goal.returns-else-st-eq-CALLS
unfolding calls_at
returns-else-st-eq-CALLS c = rw (ne_eqb _ _ c.if-st-eq-CALLS.false)
