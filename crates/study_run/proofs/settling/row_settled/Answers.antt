-- `row_settled` meets its contract, by those of its callees.
use Rattle.study_run.proofs.settling.row_settled.Goals as goal

pub returns : goal.returns
returns c = rw (c.size.ensures, c.residual_at.ensures)
