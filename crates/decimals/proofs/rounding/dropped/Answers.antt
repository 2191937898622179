use mathlib.Core.Path.{sym, subst, ◌∙◌}
use mathlib.Core.Logic.{inr}
use Prim.Native.Nat.{ℕ, ◌≤◌, ◌<◌, ◌+◌, ◌*◌, ◌^◌}
use native.Mathlib.Omega.{arith}
use borrow.Author.Tests.{leb-true, leb-false}
use Rattle.decimals.specs.Limbs.{value}
use Rattle.decimals.proofs.RoundingLaws.{shift-room, digits-bounded, dropped-is, next-room, more-digits}
use Rattle.decimals.proofs.rounding.dropped.Goals as goal
use Rattle.decimals.proofs.rounding.dropped.Goals.{In-loop-n}

reached : (c : In-loop-n) → value c.args.den * 2 ^ (c.loop-n.k + 24) ≤ value c.args.n
reached c = subst (λ (x : ℕ). x ≤ value c.args.n) c.shifted.ensures (leb-true _ _ (sym c.at_most.ensures ∙ c.loop-n-test.true))

pub start-k-requires : goal.start-k-requires
start-k-requires c = (c.requires.2, c.requires.3)

pub loop-n-init : goal.loop-n-init
loop-n-init c =
    (omega (arith, c.start-k.ensures.at-most, c.requires.2), shift-room (value c.args.den) (c.start-k.result + 24) (c.args.guess + 25) _ (omega (arith, c.start-k.ensures.at-most)) c.requires.3, c.start-k.ensures.reaches)

pub shifted-requires : goal.shifted-requires
shifted-requires c = c.loop-n.invariant.1

pub loop-n-smaller : goal.loop-n-smaller
loop-n-smaller c = omega (arith, c.loop-n.invariant.0)

pub loop-n-preserved : goal.loop-n-preserved
loop-n-preserved c =
    (omega (arith, digits-bounded _ _ (c.loop-n.k + 24) 400 c.requires.0 (reached c) c.requires.1), next-room _ _ c.loop-n.k (reached c) c.requires.1, inr (more-digits _ _ c.loop-n.k (reached c)))

pub returns : goal.returns
returns c =
    dropped-is (value c.args.n) (value c.args.den) c.loop-n.k c.requires.0
    (subst (λ (x : ℕ). value c.args.n < x) c.shifted.ensures (leb-false _ _ (sym c.at_most.ensures ∙ c.loop-n-test.false)))
    c.loop-n.invariant.2
