use Prim.Native.Nat.{◌+◌}
use mathlib.Core.Path.{refl, sym, ◌∙◌}
use native.Mathlib.Nat.{add-zero}
use native.Mathlib.Omega.{arith}
use Rattle.multibody.specs.JointRows.{write_back_joint}
use Rattle.spatial_model.specs.Spatial.{space}
use Rattle.multibody.proofs.JointRowsLaws.{few-rows, back-turn, back_done}
use Rattle.spatial_model.proofs.JointRowsLaws.{ids-len, id-at}
use Rattle.spatial_model.proofs.SpatialLaws.{spatial-laws}
use borrow.Author.Rules.{rules}
use Rattle.spatial_model.proofs.space.SpaceWork.write_back_joint.Goals as goal

pub loop-i-init : goal.loop-i-init
loop-i-init c =
    let e = c.ids_at-ids.ensures in
    let q = ids-len _ _ e in
    (search rules, few-rows spatial-laws _ _ q, q, omega (arith, q, c.requires.row_width_in_bounds), refl, e, rw add-zero)

pub loop-i-preserved : goal.loop-i-preserved
loop-i-preserved c =
    let v = c.loop-i.invariant in
    let l = rw v.2 at c.loop-i-test.true in
    let h = back-turn spatial-laws _ _ c.args.k c.args.j c.loop-i.i c.loop-i.numbers _ l (id-at _ _ _ _ l v.5) c.put_seed.ensures in
    (omega (arith, c.loop-i-test.true), v.1, v.2, v.3, c.put_seed.auto.numbers ∙ v.4, v.5, h ∙ v.6)

pub returns : goal.returns
unfolding write_back_joint
returns c =
    let v = c.loop-i.invariant in
    sym (back_done space _ _ (c.args.k + c.loop-i.i) c.args.j c.loop-i.i c.loop-i.numbers v.2 c.loop-i-test.false) ∙ v.6
