use mathlib.Core.Path.{refl, sym, ◌∙◌}
use native.Mathlib.Nat.{add-zero, sub-zero}
use native.Mathlib.Omega.{arith}
use Rattle.multibody.proofs.JointRowsLaws.{warmstart-turn, warmstart-done}
use borrow.Author.Rules.{rules}
use Rattle.multibody.proofs.CountLaws.{turn-within}
use Rattle.multibody.proofs.joint_rows.warmstart_joint.Goals as goal

pub loop-i-init : goal.loop-i-init
loop-i-init g c = (search rules, refl, rw (sub-zero, add-zero))

pub warmstart_row-requires : goal.warmstart_row-requires
warmstart_row-requires g c =
    record { row_width_in_bounds = turn-within _ _ c.args.k c.args.n c.loop-i.i c.loop-i-test.true c.requires.row_width_in_bounds; present = (λ h. omega (arith, c.loop-i.invariant.1, c.requires.present h)); present_2 = (λ h. omega (arith, c.loop-i.invariant.1, c.requires.present_2 h)) }

pub loop-i-preserved : goal.loop-i-preserved
loop-i-preserved g c =
    let h = warmstart-turn (g.K.Kind.system.store) c.args.n c.loop-i.i c.args.k c.args.b1 c.args.b2 _ _ c.loop-i-test.true c.warmstart_row.ensures in
    (omega (arith, c.loop-i-test.true), search rules, h ∙ c.loop-i.invariant.2)

pub returns : goal.returns
returns g c =
    sym (warmstart-done (g.K.Kind.system.store) _ c.args.n c.loop-i.i c.args.k c.args.b1 c.args.b2 c.loop-i.bodies c.loop-i-test.false) ∙ c.loop-i.invariant.2
