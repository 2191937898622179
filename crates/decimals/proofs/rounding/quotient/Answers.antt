use mathlib.Core.Path.{sym, subst, ◌∙◌}
use Prim.Native.Nat.{ℕ, ◌≤◌, ◌<◌, ◌+◌, ◌/◌}
use native.Mathlib.Nat.{mul-zero}
use native.Mathlib.Omega.{arith}
use borrow.Author.Tests.{leb-true, leb-false}
use Rattle.decimals.specs.Limbs.{value}
use Rattle.decimals.proofs.RoundingLaws.{product-room, most_pos, quotient_is}
use Rattle.decimals.proofs.rounding.quotient.Goals as goal

pub loop-low-init : goal.loop-low-init
loop-low-init c = (most_pos (value c.args.n) (value c.args.d) c.args.most c.requires.0, omega arith, omega (arith, mul-zero (value c.args.d)), c.requires.0)

pub overflow_add-low : goal.overflow_add-low
overflow_add-low c = omega arith

pub overflow_add-middle : goal.overflow_add-middle
overflow_add-middle c = omega arith

pub times-requires : goal.times-requires
times-requires c = product-room (value c.args.d) ((c.loop-low.low + c.loop-low.high) / 2) _ c.args.most (omega arith) c.requires.1

pub loop-low-smaller-then-at_most : goal.loop-low-smaller-then-at_most
loop-low-smaller-then-at_most c = omega arith

pub loop-low-preserved-then-at_most : goal.loop-low-preserved-then-at_most
loop-low-preserved-then-at_most c =
    (omega arith, omega arith, subst (λ (x : ℕ). x ≤ value c.args.n) c.times.ensures (leb-true _ _ (sym c.at_most.ensures ∙ c.if-at_most.true)), c.loop-low.invariant.3)

pub loop-low-smaller : goal.loop-low-smaller
loop-low-smaller c = omega arith

pub loop-low-preserved : goal.loop-low-preserved
loop-low-preserved c =
    (omega arith, omega arith, c.loop-low.invariant.2, subst (λ (x : ℕ). value c.args.n < x) c.times.ensures (leb-false _ _ (sym c.at_most.ensures ∙ c.if-at_most.false)))

pub returns : goal.returns
returns c = quotient_is (value c.args.n) (value c.args.d) c.loop-low.low c.loop-low.high (omega arith) c.loop-low.invariant.2 c.loop-low.invariant.3
