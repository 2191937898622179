-- `rows_reply` meets its contract, by that of the row read.
use Rattle.study_run.proofs.RunLaws.{rows-said}
use Rattle.study_run.proofs.runs.rows_reply.Goals as goal

pub returns : goal.returns
returns c = rw c.granted.ensures (rows-said _ c.read_rows.result c.read_rows.ensures.rows_value)
