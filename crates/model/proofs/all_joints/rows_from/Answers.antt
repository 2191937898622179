use mathlib.Core.Path.{◌≡◌, refl, ◌∙◌}
use native.Mathlib.Omega.{arith}
use lib.ListN.{length-set}
use Rattle.rows.specs.Update.{blank_row}
use Rattle.model.specs.Planar.{plane}
use Rattle.multibody.proofs.AllJointsLaws.{row-turn, no_rows}
use Rattle.model.proofs.JointRowsLaws.{rows-array}
use borrow.Author.Rules.{rules}
use Rattle.model.proofs.all_joints.rows_from.Goals as goal

pub loop-i-init : goal.loop-i-init
loop-i-init c = (search rules, refl, rw (no_rows plane, c.blank_row-out.ensures))

pub loop-i-preserved : goal.loop-i-preserved
loop-i-preserved c =
    (search rules, rw length-set c.loop-i.invariant.1, row-turn plane blank_row 6 _ c.args.k c.loop-i.i (omega arith) c.loop-i.invariant.2 c.row_at.ensures)

pub returns : goal.returns
returns c =
    let e : c.loop-i.i ≡ c.args.n = omega (arith, c.loop-i-test.false) in
    rows-array _ _ _ (c.loop-i.invariant.2 ∙ rw e)
