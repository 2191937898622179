-- `warmstart_of` meets its contract.
use Rattle.study_run.proofs.acts.warmstart_of.Goals as goal

pub returns-then-l : goal.returns-then-l
returns-then-l c = rw c.if-l.true

pub returns-else-l : goal.returns-else-l
returns-else-l c = rw c.if-l.false
