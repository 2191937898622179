use mathlib.Core.Path.{refl, sym, ◌∙◌}
use native.Mathlib.Nat.{add-zero}
use native.Mathlib.Omega.{arith}
use Rattle.spatial_model.specs.Spatial.{space}
use Rattle.multibody.proofs.JointRowsLaws.{put-turn, put-done}
use borrow.Author.Rules.{rules}
use Rattle.spatial_model.proofs.joint_rows.put_rows.Goals as goal

pub loop-i-init : goal.loop-i-init
loop-i-init c =
    let six = c.well_formed.1.1.0.1.1.0.1.0.1 in
    (search rules, omega (arith, six), refl, rw add-zero)

pub loop-i-preserved : goal.loop-i-preserved
loop-i-preserved c =
    let h = put-turn space c.loop-i.rows c.args.k c.loop-i.i c.args.made.len c.args.made.rows _ c.loop-i-test.true c.loop-i.invariant.1 c.put_row.ensures in
    (omega (arith, c.loop-i-test.true), c.loop-i.invariant.1, c.put_row.auto.s ∙ c.loop-i.invariant.2, h ∙ c.loop-i.invariant.3)

pub returns : goal.returns
returns c =
    sym (put-done space c.loop-i.rows _ c.loop-i.i c.args.made.len c.args.made.rows c.loop-i.invariant.1 c.loop-i-test.false) ∙ c.loop-i.invariant.3
