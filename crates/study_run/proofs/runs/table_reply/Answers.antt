-- `table_reply` meets its contract.
use borrow.Author.Tests.{not-true, not-false}
use Rattle.multibody.proofs.AnswerLaws.{passed-on}
use Rattle.study_run.specs.Runs.{table_reply}
use Rattle.study_run.proofs.RunLaws.{table-refused, table-printed}
use Rattle.study_run.proofs.runs.table_reply.Goals as goal

pub returns-then-not-header : goal.returns-then-not-header
unfolding table_reply
returns-then-not-header c = rw (not-true c.args.header.built c.if-not-header.true)

pub returns-in_err-first_refused : goal.returns-in_err-first_refused
returns-in_err-first_refused c =
    rw (passed-on _ c.from_residual.ensures.1) (table-refused _ _ _ _ (not-false c.args.header.built c.if-not-header.false) c.first_refused.ensures c.in_err-first_refused.was)

pub returns : goal.returns
returns c = table-printed _ _ _ _ (not-false c.args.header.built c.if-not-header.false) c.first_refused.ensures c.in_ok-first_refused.was
