use mathlib.Core.Path.{refl, ◌∙◌}
use native.Mathlib.Omega.{arith}
use Rattle.multibody.specs.Calls.{build_one}
use Rattle.multibody.proofs.CountLaws.{records-few, joint-words, joint-numbers}
use Rattle.multibody.proofs.AllJointsLaws.{first-turn, next-turn, no-turn, all-rows, rows-within}
use Rattle.multibody.proofs.all_joints.build_all.Goals as goal

pub loop-j-init : goal.loop-j-init
loop-j-init g c = (first-turn (g.K.Kind.system.store) _ _ _ _, refl)

pub build_joint-first-requires : goal.build_joint-first-requires
build_joint-first-requires g c =
    let n = c.joint_count-joints.ensures in
    let h = rw n at c.loop-j-test.true in
    let room = rows-within (g.K.Kind.system.store) _ _ _ c.requires.fact_2 n c.loop-j-test.true c.loop-j.invariant.0.begins refl in
    record { words_width_in_bounds = joint-words (g.K.Kind.system.store) _ _ _ h; numbers_width_in_bounds = joint-numbers (g.K.Kind.system.store) _ _ _ h; present = c.requires.fact.present1 _ h; present_2 = c.requires.fact.present2 _ h; row_width_in_bounds = omega (arith, c.loop-j.invariant.1, room) }

pub overflow_add-first : goal.overflow_add-first
overflow_add-first g c =
    let room = rows-within (g.K.Kind.system.store) _ _ _ c.requires.fact_2 c.joint_count-joints.ensures c.loop-j-test.true c.loop-j.invariant.0.begins c.build_joint-first.ensures.0 in
    omega (arith, records-few _ _ _ g.met.K.Kind.widths.row-wide room)

pub loop-j-preserved : goal.loop-j-preserved
unfolding build_one
loop-j-preserved g c =
    let t = c.loop-j.invariant.0 in
    let made = c.build_joint-first.ensures in
    (next-turn (g.K.Kind.system.store) _ _ _ t c.loop-j-test.true made.0 (made.1 ∙ rw t.begins), c.build_joint-first.auto.rows ∙ c.loop-j.invariant.1)

pub returns : goal.returns
unfolding build_one
returns g c =
    let t = c.loop-j.invariant.0 in
    rw (← c.joint_count-joints.ensures) (all-rows (g.K.Kind.system.store) _ _ _ t c.loop-j-test.false, no-turn (g.K.Kind.system.store) _ _ _ t c.loop-j-test.false)
