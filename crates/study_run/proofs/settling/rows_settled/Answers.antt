use native.Mathlib.Omega.{arith}
use mathlib.Core.Path.{refl, sym, ◌∙◌}
use Rattle.rows.specs.Reaction.{rows_in}
use Rattle.study_run.proofs.SettledLaws.{row_open, row_next, rows-done}
use Rattle.study_run.proofs.settling.rows_settled.Goals as goal

pub loop-k-init : goal.loop-k-init
loop-k-init c = (c.held-n.ensures.upper_bound, c.held-n.ensures.value, refl)

pub returns-then-not-row_settled : goal.returns-then-not-row_settled
returns-then-not-row_settled c =
    let rs = c.row_settled in
    let lt = c.loop-k-test in
    let l = c.loop-k in
    let made = c.args.made in
    sym (row_open _ _ _ _ made.len l.k made.rows _ (omega (arith, lt.true, l.invariant.1)) rs.ensures c.if-not-row_settled.true) ∙ l.invariant.2

pub loop-k-preserved : goal.loop-k-preserved
loop-k-preserved c =
    let rs = c.row_settled in
    let lt = c.loop-k-test in
    let l = c.loop-k in
    let made = c.args.made in
    (l.invariant.0, l.invariant.1, sym (row_next _ _ _ _ made.len l.k made.rows _ (omega (arith, lt.true, l.invariant.1)) rs.ensures c.if-not-row_settled.false) ∙ l.invariant.2)

pub returns : goal.returns
returns c =
    let l = c.loop-k in
    sym (rows-done _ _ _ _ l.k (rows_in c.args.made) (omega (arith, c.loop-k-test.false, l.invariant.1))) ∙ l.invariant.2
