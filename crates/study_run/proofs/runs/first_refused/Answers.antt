use native.Mathlib.Numerals.{unary_clauses}
use mathlib.Core.Path.{sym, ◌∙◌}
use Rattle.multibody.proofs.AnswerLaws.{passed-on}
use Rattle.study_run.proofs.RunLaws.{refused-here, refused-later, refused_none}
use Rattle.study_run.proofs.runs.first_refused.Goals as goal

pub loop-j-init : goal.loop-j-init
loop-j-init c = simp unary_clauses

pub returns-in_err-read_rows : goal.returns-in_err-read_rows
returns-in_err-read_rows c =
    rw (passed-on _ c.from_residual.ensures.1) (sym (refused-here _ _ _ _ c.loop-j-test.true _ c.read_rows.ensures.rows_value c.in_err-read_rows.was) ∙ c.loop-j.invariant)

pub loop-j-preserved : goal.loop-j-preserved
loop-j-preserved c = sym (refused-later _ _ _ _ c.loop-j-test.true _ c.read_rows.ensures.rows_value c.in_ok-read_rows.was) ∙ c.loop-j.invariant

pub returns : goal.returns
returns c = sym (refused_none _ _ _ _ c.loop-j-test.false) ∙ c.loop-j.invariant
