-- `rows_at` meets its contract, by what its six calls ensure.
use Rattle.comparison.proofs.joint.rows_at.Goals as goal

pub returns : goal.returns
returns c = cc
