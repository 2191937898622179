-- `kept` meets its contract.
use borrow.Author.Tests.{eq-eqb, ne_eqb}
use Rattle.study_run.proofs.motors.kept.Goals as goal

pub returns-then-rounds-eq0 : goal.returns-then-rounds-eq0
returns-then-rounds-eq0 c = rw (eq-eqb _ _ c.if-rounds-eq0.true)

pub returns-else-rounds-eq0 : goal.returns-else-rounds-eq0
returns-else-rounds-eq0 c = rw (ne_eqb _ _ c.if-rounds-eq0.false)
