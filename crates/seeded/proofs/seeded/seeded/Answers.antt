-- `seeded` meets its contract: where there is room each slice is what its function leaves.
use Rattle.std.proofs.Common.{arith, sym, ◌∙◌}
use Rattle.seeded.specs.Left.{seeded_of}
use Rattle.seeded.proofs.PlaceLaws.{few_bodies, few_joints}
use Rattle.seeded.proofs.seeded.seeded.Goals as goal

pub returns-then-not-room : goal.returns-then-not-room
unfolding seeded_of
returns-then-not-room c = rw (sym c.room.ensures.value ∙ c.if-not-room.true)

pub put_bodies-requires : goal.put_bodies-requires
put_bodies-requires c = omega (arith, few_bodies _ c.bodies_of-n.ensures, c.room.ensures.enough c.if-not-room.false)

pub put_words-requires : goal.put_words-requires
put_words-requires c = omega (arith, few_joints _ c.joints_of-joints.ensures, c.room.ensures.enough c.if-not-room.false)

pub put_numbers-requires : goal.put_numbers-requires
put_numbers-requires c = omega (arith, few_joints _ c.joints_of-joints.ensures, c.room.ensures.enough c.if-not-room.false)

pub returns : goal.returns
unfolding seeded_of
returns c = rw (sym c.room.ensures.value ∙ c.if-not-room.false) (cc)
