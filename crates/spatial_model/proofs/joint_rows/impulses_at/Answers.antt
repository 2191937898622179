use mathlib.Core.Path.{◌≡◌, refl, ◌∙◌}
use native.Mathlib.Omega.{arith}
use lib.ListN.{length-set}
use Rattle.spatial_model.specs.Spatial.{space}
use Rattle.multibody.proofs.JointRowsLaws.{impulse-turn, no-impulses}
use Rattle.spatial_model.proofs.SpatialLaws.{spatial-laws}
use borrow.Author.Rules.{rules}
use Rattle.spatial_model.proofs.joint_rows.impulses_at.Goals as goal

pub loop-i-init : goal.loop-i-init
loop-i-init c = (search rules, refl, rw (no-impulses space))

pub loop-i-preserved : goal.loop-i-preserved
loop-i-preserved c =
    (search rules, rw length-set c.loop-i.invariant.1, impulse-turn spatial-laws _ c.args.k c.loop-i.i (omega arith) c.loop-i.invariant.2)

pub returns : goal.returns
returns c =
    let e : c.loop-i.i ≡ c.args.n = omega (arith, c.loop-i-test.false) in
    c.loop-i.invariant.2 ∙ rw e
