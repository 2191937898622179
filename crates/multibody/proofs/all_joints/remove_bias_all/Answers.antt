use mathlib.Core.Path.{refl, ◌∙◌}
use native.Mathlib.Omega.{arith}
use Rattle.multibody.specs.Calls.{remove_bias_one}
use Rattle.multibody.proofs.CountLaws.{records-few, joint-words}
use Rattle.multibody.proofs.AllJointsLaws.{first-turn, next-turn, no-turn, rows-within}
use Rattle.multibody.proofs.all_joints.remove_bias_all.Goals as goal

pub loop-j-init : goal.loop-j-init
loop-j-init g c = (first-turn (g.K.Kind.system.store) _ _ _ _, refl)

pub count_at-count-requires : goal.count_at-count-requires
count_at-count-requires g c = joint-words (g.K.Kind.system.store) _ _ _ (rw c.joint_count-n.ensures at c.loop-j-test.true)

pub remove_bias_joint-requires : goal.remove_bias_joint-requires
remove_bias_joint-requires g c =
    omega (arith, c.loop-j.invariant.1, rows-within (g.K.Kind.system.store) _ _ _ c.requires c.joint_count-n.ensures c.loop-j-test.true c.loop-j.invariant.0.begins c.count_at-count.ensures.value)

pub overflow_add-first : goal.overflow_add-first
overflow_add-first g c =
    let room = rows-within (g.K.Kind.system.store) _ _ _ c.requires c.joint_count-n.ensures c.loop-j-test.true c.loop-j.invariant.0.begins c.count_at-count.ensures.value in
    omega (arith, records-few _ _ _ g.met.K.Kind.widths.row-wide room)

pub loop-j-preserved : goal.loop-j-preserved
unfolding remove_bias_one
loop-j-preserved g c =
    let t = c.loop-j.invariant.0 in
    (next-turn (g.K.Kind.system.store) _ _ _ t c.loop-j-test.true c.count_at-count.ensures.value (c.remove_bias_joint.ensures ∙ rw (t.begins, c.count_at-count.ensures.value)), c.remove_bias_joint.auto.rows ∙ c.loop-j.invariant.1)

pub returns : goal.returns
returns g c = rw (← c.joint_count-n.ensures) (no-turn (g.K.Kind.system.store) _ _ _ c.loop-j.invariant.0 c.loop-j-test.false)
