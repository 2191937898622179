use mathlib.Core.Path.{refl, sym, ◌∙◌}
use native.Mathlib.Nat.{add-zero, sub-zero}
use native.Mathlib.Omega.{arith}
use Rattle.multibody.proofs.JointRowsLaws.{bias-turn, bias-done}
use borrow.Author.Rules.{rules}
use Rattle.multibody.proofs.joint_rows.remove_bias_joint.Goals as goal

pub loop-i-init : goal.loop-i-init
loop-i-init g c = (search rules, refl, rw (sub-zero, add-zero))

pub loop-i-preserved : goal.loop-i-preserved
loop-i-preserved g c =
    let h = bias-turn (g.K.Kind.system.store) c.args.n c.loop-i.i c.args.k c.loop-i.rows c.loop-i-test.true in
    (omega (arith, c.loop-i-test.true), search rules, cc (h, c.remove_bias_row.ensures, c.loop-i.invariant.2))

pub returns : goal.returns
returns g c =
    sym (bias-done (g.K.Kind.system.store) c.args.n c.loop-i.i c.args.k c.loop-i.rows c.loop-i-test.false) ∙ c.loop-i.invariant.2
