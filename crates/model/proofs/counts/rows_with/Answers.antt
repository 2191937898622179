use mathlib.Core.Path.{◌≡◌, sym, ◌∙◌}
use native.Mathlib.Omega.{arith}
use borrow.Author.Rules.{rules}
use Rattle.model.specs.Store.{put_masks}
use Rattle.model.specs.Planar.{plane}
use Rattle.multibody.proofs.JointRowsLaws.{few-rows}
use Rattle.multibody.proofs.CountLaws.{rows_before-none, rows_before-next, rows_before-le}
use Rattle.model.proofs.PlanarLaws.{planar-laws}
use Rattle.model.proofs.counts.rows_with.Goals as goal

pub loop-i-init : goal.loop-i-init
loop-i-init c = (search rules, sym (rows_before-none plane _))

pub overflow_add-first : goal.overflow_add-first
overflow_add-first c =
    let a = c.args in
    let words = put_masks a.words.now a.j a.masks in
    omega (arith, rows_before-le planar-laws words c.loop-i.i, few-rows planar-laws words c.loop-i.i c.count_with-first.ensures)

pub loop-i-preserved : goal.loop-i-preserved
loop-i-preserved c =
    let a = c.args in
    (search rules, cc (c.loop-i.invariant.1, c.count_with-first.ensures, rows_before-next plane (put_masks a.words.now a.j a.masks) c.loop-i.i))

pub returns : goal.returns
returns c =
    let e : c.loop-i.i ≡ c.args.n = omega (arith, c.loop-i-test.false) in
    c.loop-i.invariant.1 ∙ rw e
