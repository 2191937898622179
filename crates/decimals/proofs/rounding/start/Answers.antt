-- `start` meets its contract: the guess is taken only where the test allows it.
use mathlib.Core.Path.{refl, sym, subst, ◌∙◌}
use mathlib.Core.Logic.{inl, inr}
use Prim.Native.Nat.{ℕ, ◌≤◌, ◌+◌}
use native.Mathlib.Nat.{le_refl}
use native.Mathlib.Omega.{arith}
use borrow.Author.Tests.{leb-true}
use Rattle.decimals.specs.Limbs.{value}
use Rattle.decimals.proofs.RoundingLaws.{shift-room}
use borrow.Author.Rules.{rules}
use Rattle.decimals.proofs.rounding.start.Goals as goal

pub shifted-requires : goal.shifted-requires
shifted-requires c = shift-room (value c.args.den) (c.args.guess + 23) (c.args.guess + 25) _ (omega arith) c.requires.1

pub returns-then-at_most : goal.returns-then-at_most
returns-then-at_most c =
    record { at-most = le_refl _; reaches = inr (subst (λ (x : ℕ). x ≤ value c.args.n) c.shifted.ensures (leb-true _ _ (sym c.at_most.ensures ∙ c.if-at_most.true))) }

pub returns : goal.returns
returns c = record { at-most = search rules; reaches = inl refl }
