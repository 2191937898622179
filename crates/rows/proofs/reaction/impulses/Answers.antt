use native.Mathlib.Omega.{arith}
use mathlib.Core.Path.{sym, ◌∙◌}
use lib.ListN.{length-take}
use Rattle.rows.specs.Reaction.{rows_in}
use Rattle.rows.proofs.ReactionLaws.{given-turn, given-done}
use Rattle.rows.proofs.reaction.impulses.Goals as goal

pub loop-k-init : goal.loop-k-init
loop-k-init c =
    let six = c.well_formed.0.1.1.0.1.0.1 in
    (omega (arith, c.held-n.ensures, length-take c.args.rows.len c.args.rows.rows, six), c.held-n.ensures, rw c.no_impulses-sums.ensures)

pub loop-k-preserved : goal.loop-k-preserved
loop-k-preserved c =
    let l = c.loop-k in
    let rows = c.args.rows in
    (l.invariant.0, l.invariant.1, given-turn l.sums rows.len l.k rows.rows _ (omega (arith, c.loop-k-test.true, l.invariant.1)) c.given-sums.ensures ∙ l.invariant.2)

pub returns : goal.returns
returns c =
    let l = c.loop-k in
    let rows = c.args.rows in
    sym (given-done l.sums l.k (rows_in rows) (omega (arith, c.loop-k-test.false, l.invariant.1))) ∙ l.invariant.2
