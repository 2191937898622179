-- `run_settle` meets its contract, by those of its parts.
use mathlib.Core.Path.{◌∙◌}
use Rattle.study_run.specs.Settled.{settle_of}
use Rattle.study_run.proofs.RunLaws.{refused-err}
use Rattle.study_run.proofs.settling.run_settle.Goals as goal

pub returns-then-is_err : goal.returns-then-is_err
unfolding settle_of
returns-then-is_err c = rw (← c.run_sweep-first.ensures, ← (c.is_err.ensures.value ∙ refused-err c.run_sweep-first.result.reply), c.if-is_err.true)

pub returns : goal.returns
unfolding settle_of
returns c = rw (← c.run_sweep-first.ensures, ← (c.is_err.ensures.value ∙ refused-err c.run_sweep-first.result.reply), c.if-is_err.false, c.joints_settled-settled.ensures, ← c.run_rounds-swept.ensures)
