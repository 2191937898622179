use Rattle.std.proofs.Common.{refl, arith, length-set}
use Rattle.seeded.proofs.Front.{front-none, front-next, front-done}
use Rattle.seeded.proofs.seeded.put_bodies.Goals as goal
use Rattle.seeded.proofs.seeded.put_bodies.Goals.{In-loop-p}

pub loop-p-init : goal.loop-p-init
loop-p-init c = (refl, front-none _ _)

pub loop-p-preserved : goal.loop-p-preserved
loop-p-preserved c =
    let l = (goal.at.loop-p-preserved c).In-loop-p in
    let v = l.loop-p.invariant in
    (simp length-set v.0, front-next _ _ (omega (arith, l.loop-p-test.true, l.requires.body_width_in_bounds)) v.1 c.body_number.ensures)

pub returns : goal.returns
returns c = front-done _ _ c.loop-p.auto.p-end c.loop-p-test.false c.loop-p.invariant.1
