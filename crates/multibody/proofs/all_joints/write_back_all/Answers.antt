use mathlib.Core.Path.{refl, ◌∙◌}
use native.Mathlib.Omega.{arith}
use Rattle.multibody.specs.Calls.{write_back_one}
use Rattle.multibody.proofs.CountLaws.{records-few, joint-words, joint-numbers}
use Rattle.multibody.proofs.AllJointsLaws.{first-turn, next-turn, no-turn, rows-within}
use Rattle.multibody.proofs.all_joints.write_back_all.Goals as goal

pub loop-j-init : goal.loop-j-init
loop-j-init g c = (first-turn (g.K.Kind.system.store) _ _ _ _, refl)

pub write_back_joint-requires : goal.write_back_joint-requires
write_back_joint-requires g c =
    let n = c.joint_count-n.ensures in
    let h = rw n at c.loop-j-test.true in record { words_width_in_bounds = joint-words (g.K.Kind.system.store) _ _ _ h; numbers_width_in_bounds = omega (arith, c.loop-j.invariant.1, joint-numbers (g.K.Kind.system.store) _ _ _ h); row_width_in_bounds = rows-within (g.K.Kind.system.store) _ _ _ c.requires n c.loop-j-test.true c.loop-j.invariant.0.begins refl }

pub count_at-first-requires : goal.count_at-first-requires
count_at-first-requires g c =
    joint-words (g.K.Kind.system.store) _ _ _ (rw c.joint_count-n.ensures at c.loop-j-test.true)

pub overflow_add-first : goal.overflow_add-first
overflow_add-first g c =
    let room = rows-within (g.K.Kind.system.store) _ _ _ c.requires c.joint_count-n.ensures c.loop-j-test.true c.loop-j.invariant.0.begins c.count_at-first.ensures.value in
    omega (arith, records-few _ _ _ g.met.K.Kind.widths.row-wide room)

pub loop-j-preserved : goal.loop-j-preserved
unfolding write_back_one
loop-j-preserved g c =
    let t = c.loop-j.invariant.0 in
    (next-turn (g.K.Kind.system.store) _ _ _ t c.loop-j-test.true c.count_at-first.ensures.value (c.write_back_joint.ensures ∙ rw t.begins), c.write_back_joint.auto.numbers ∙ c.loop-j.invariant.1)

pub returns : goal.returns
returns g c = rw (← c.joint_count-n.ensures) (no-turn (g.K.Kind.system.store) _ _ _ c.loop-j.invariant.0 c.loop-j-test.false)
