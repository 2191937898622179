use Prim.Native.Nat.{◌+◌, ◌-◌}
use mathlib.Core.Path.{refl, sym, ◌∙◌}
use native.Mathlib.Nat.{add_assoc, add-zero, zero-add, sub-zero}
use native.Mathlib.Omega.{arith}
use Rattle.multibody.specs.JointRows.{state}
use Rattle.multibody.proofs.JointRowsLaws.{sweep-turn, sweep-done}
use Rattle.multibody.proofs.MotorCounts.{count_turn, count-done}
use borrow.Author.Rules.{rules}
use Rattle.multibody.proofs.CountLaws.{turn-within}
use Rattle.multibody.proofs.joint_rows.sweep_joint.Goals as goal

pub loop-i-init : goal.loop-i-init
loop-i-init g c = (search rules, refl, refl, rw (sub-zero, add-zero), search rules, rw (sub-zero, sub-zero, add-zero, zero-add))

pub sweep_row-side-requires : goal.sweep_row-side-requires
sweep_row-side-requires g c =
    record { row_width_in_bounds = turn-within _ _ c.args.k c.args.n c.loop-i.i c.loop-i-test.true (rw c.loop-i.invariant.1 c.requires.row_width_in_bounds); present = (λ h. omega (arith, c.loop-i.invariant.2, c.requires.present h)); present_2 = (λ h. omega (arith, c.loop-i.invariant.2, c.requires.present_2 h)) }

pub overflow_add-count : goal.overflow_add-count
overflow_add-count g c =
    record { fits = omega (arith, c.loop-i.invariant.4, c.count_row-count.ensures.upper_bound, c.loop-i-test.true, c.requires.n_bound, g.met.K.Kind.widths.byte) }

pub loop-i-preserved : goal.loop-i-preserved
loop-i-preserved g c =
    let now = state c.loop-i.rows c.loop-i.bodies in
    let h = sweep-turn (g.K.Kind.system.store) c.args.n c.loop-i.i c.args.k c.args.b1 c.args.b2 now c.loop-i-test.true in
    let g = count_turn (g.K.Kind.system.store) c.args.n c.loop-i.i c.args.k c.args.motors c.args.b1 c.args.b2 now c.loop-i-test.true in (
      omega (arith, c.loop-i-test.true),
      c.sweep_row-side.auto.rows ∙ c.loop-i.invariant.1,
      c.sweep_row-side.auto.bodies ∙ c.loop-i.invariant.2,
      cc (h, c.sweep_row-side.ensures.1, c.loop-i.invariant.3),
      omega (arith, c.loop-i.invariant.4, c.count_row-count.ensures.upper_bound),
      rw (c.sweep_row-side.ensures.1, c.count_row-count.ensures.value, c.sweep_row-side.ensures.0, add_assoc) (rw g at c.loop-i.invariant.5),
    )

pub returns : goal.returns
returns g c =
    let now = state c.loop-i.rows c.loop-i.bodies in (
      omega (
        arith,
        c.loop-i.invariant.5,
        count-done (g.K.Kind.system.store) c.args.n c.loop-i.i (c.args.k + c.loop-i.i) (c.args.motors - c.loop-i.i) c.args.b1 c.args.b2 now c.loop-i-test.false,
      ),
      sym (sweep-done (g.K.Kind.system.store) c.args.n c.loop-i.i c.args.k c.args.b1 c.args.b2 now c.loop-i-test.false) ∙ c.loop-i.invariant.3,
    )
