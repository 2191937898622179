use mathlib.Core.Path.{refl, ◌∙◌}
use native.Mathlib.Omega.{arith}
use lib.ListN.{length-set}
use Rattle.multibody.specs.Calls.{counted_round}
use Rattle.multibody.proofs.MotorCounts.{counted-turn}
use Rattle.multibody.proofs.CountLaws.{records-few, joint-words}
use Rattle.multibody.proofs.AllJointsLaws.{first-turn, next-turn, no-turn, rows-within}
use Rattle.multibody.proofs.all_joints.sweep_round.Goals as goal

pub loop-j-init : goal.loop-j-init
loop-j-init g c = (first-turn (g.K.Kind.system.store) _ _ _ _, refl, refl, refl)

pub count_at-count-requires : goal.count_at-count-requires
count_at-count-requires g c = joint-words (g.K.Kind.system.store) _ _ _ (rw c.joint_count-n.ensures at c.loop-j-test.true)

pub body1_at-b1-requires : goal.body1_at-b1-requires
body1_at-b1-requires g c = joint-words (g.K.Kind.system.store) _ _ _ (rw c.joint_count-n.ensures at c.loop-j-test.true)

pub body2_at-b2-requires : goal.body2_at-b2-requires
body2_at-b2-requires g c = joint-words (g.K.Kind.system.store) _ _ _ (rw c.joint_count-n.ensures at c.loop-j-test.true)

pub motors_at-motors-requires : goal.motors_at-motors-requires
motors_at-motors-requires g c = joint-words (g.K.Kind.system.store) _ _ _ (rw c.joint_count-n.ensures at c.loop-j-test.true)

pub sweep_joint-requires : goal.sweep_joint-requires
sweep_joint-requires g c =
    let n = c.joint_count-n.ensures in
    let h = rw n at c.loop-j-test.true in
    let room = rows-within (g.K.Kind.system.store) _ _ _ c.requires.fact_2 n c.loop-j-test.true c.loop-j.invariant.0.begins c.count_at-count.ensures.value in record { n_bound = c.count_at-count.ensures.few; row_width_in_bounds = omega (arith, c.loop-j.invariant.1, room); present = rw (c.loop-j.invariant.2, c.body1_at-b1.ensures) (c.requires.fact.present1 _ h); present_2 = rw (c.loop-j.invariant.2, c.body2_at-b2.ensures) (c.requires.fact.present2 _ h) }

pub bounds-counts-j : goal.bounds-counts-j
bounds-counts-j g c =
    omega (
      arith,
      c.loop-j.invariant.3,
      c.joint_count-n.ensures,
      c.loop-j-test.true,
      c.requires.numbers_in_bounds,
    )

pub overflow_add-first : goal.overflow_add-first
overflow_add-first g c =
    let room = rows-within (g.K.Kind.system.store) _ _ _ c.requires.fact_2 c.joint_count-n.ensures c.loop-j-test.true c.loop-j.invariant.0.begins c.count_at-count.ensures.value in
    omega (arith, records-few _ _ _ g.met.K.Kind.widths.row-wide room)

pub loop-j-preserved : goal.loop-j-preserved
loop-j-preserved g c =
    let t = c.loop-j.invariant.0 in (
      next-turn (g.K.Kind.system.store) _ _ _ t c.loop-j-test.true c.count_at-count.ensures.value
          (counted-turn (g.K.Kind.system.store) _ c.loop-j.j _ _ t.begins c.count_at-count.ensures.value c.motors_at-motors.ensures c.body1_at-b1.ensures c.body2_at-b2.ensures c.sweep_joint.ensures.0
          c.sweep_joint.ensures.1),
      c.sweep_joint.auto.rows ∙ c.loop-j.invariant.1,
      c.sweep_joint.auto.bodies ∙ c.loop-j.invariant.2,
      length-set c.loop-j.counts c.loop-j.j c.sweep_joint.result ∙ c.loop-j.invariant.3,
    )

pub returns : goal.returns
unfolding counted_round
returns g c = rw (← c.joint_count-n.ensures) (no-turn (g.K.Kind.system.store) _ _ _ c.loop-j.invariant.0 c.loop-j-test.false)
