use Rattle.std.proofs.Common.{sym, refl, ◌∙◌, arith, rules}
use native.Mathlib.Nat.{sub-zero}
use Rattle.multibody.specs.Counts.{body_count}
use Rattle.frames.proofs.MoveLaws.{no_move, stop-move, next-move, body-turn}
use Rattle.frames.proofs.moving.move_all.Goals as goal

pub overflow_cast-n : goal.overflow_cast-n
unfolding body_count
overflow_cast-n c = omega (arith, c.requires)

pub loop-i-init : goal.loop-i-init
unfolding body_count
loop-i-init c = (refl, refl, rw sub-zero)

pub new_pose-pose-requires : goal.new_pose-pose-requires
new_pose-pose-requires c = body-turn _ _ _ _ c.loop-i.invariant.0 c.loop-i.invariant.1 c.loop-i-test.true

pub returns-then-not-finite_pose : goal.returns-then-not-finite_pose
returns-then-not-finite_pose c =
    sym (stop-move _ _ _ _ c.loop-i-test.true c.new_pose-pose.ensures (sym c.finite_pose.ensures ∙ c.if-not-finite_pose.true)) ∙ c.loop-i.invariant.2

pub loop-i-preserved : goal.loop-i-preserved
loop-i-preserved c =
    let v = c.loop-i.invariant in (
      v.0,
      search rules,
      sym (next-move _ _ _ _ c.loop-i-test.true c.new_pose-pose.ensures (sym c.finite_pose.ensures ∙ c.if-not-finite_pose.false) (body-turn _ _ _ _ v.0 v.1 c.loop-i-test.true) c.write_pose.ensures) ∙ v.2,
    )

pub returns : goal.returns
returns c = sym (no_move _ _ _ _ c.loop-i-test.false) ∙ c.loop-i.invariant.2
