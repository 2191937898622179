use mathlib.Core.Path.{◌≡◌, refl, ap, sym, subst, ◌∙◌}
use Prim.Native.Nat.{ℕ, ◌≤◌, ◌<◌, ◌*◌, ◌^◌}
use native.Mathlib.Omega.{arith}
use borrow.Author.Tests.{leb-true, leb-false}
use lib.Dec.{lit<}
use Rattle.decimals.specs.Limbs.{value}
use Rattle.decimals.specs.Spelled.{fewer}
use Rattle.decimals.proofs.SpelledLaws.{twice-room, next-den-room, den-room, next-fewer, all-nine, half-below, places-here, places-more, places-end, places-all}
use Rattle.decimals.proofs.spelled.dropped.Goals as goal

tenfold : (d : ℕ) → 0 < d → 0 < d * 10
tenfold d h = omega arith

pub times-twice-requires : goal.times-twice-requires
times-twice-requires c = twice-room (value c.args.num) c.requires

pub shifted-den-requires : goal.shifted-den-requires
shifted-den-requires c = rw c.natural.ensures (lit< tt)

pub loop-places-init : goal.loop-places-init
loop-places-init c = (first, refl, rw first (lit< tt), rw first (lit< tt))
  where
    first : value c.shifted-den.result ≡ fewer 0
    first = c.shifted-den.ensures ∙ ap (λ (x : ℕ). x * 2 ^ 96) c.natural.ensures

pub times-requires : goal.times-requires
times-requires c = den-room (value c.loop-places.den) _ (omega arith) c.loop-places.invariant.3

pub returns-then-not-at_most : goal.returns-then-not-at_most
returns-then-not-at_most c =
    let l = c.loop-places in
    let twice = c.times-twice in
    let below : value twice.result < value l.den * 1999999999 = subst (λ (x : ℕ). value twice.result < x) c.times.ensures (leb-false _ _ (sym c.at_most.ensures ∙ c.if-not-at_most.true)) in
    record { fewest = places-all (value c.args.num) (value twice.result) l.places twice.ensures l.invariant.1 (places-here (value twice.result) l.places c.loop-places-test.true (rw l.invariant.0 at below)); by = l.invariant.0; some = l.invariant.2; nine = half-below (value l.den) _ _ twice.ensures below; room = l.invariant.3 }

pub times-next-requires : goal.times-next-requires
times-next-requires c = den-room (value c.loop-places.den) _ (omega arith) c.loop-places.invariant.3

pub loop-places-preserved : goal.loop-places-preserved
loop-places-preserved c =
    let l = c.loop-places in
    let twice = c.times-twice in
    let reached : value l.den * 1999999999 ≤ value twice.result = subst (λ (x : ℕ). x ≤ value twice.result) c.times.ensures (leb-true _ _ (sym c.at_most.ensures ∙ c.if-not-at_most.false)) in
    let next : value c.times-next.result ≡ value l.den * 10 = c.times-next.ensures in (
      next ∙ ap (λ (x : ℕ). x * 10) l.invariant.0 ∙ next-fewer l.places,
      sym (places-more (value twice.result) l.places c.loop-places-test.true (rw l.invariant.0 at reached)) ∙ l.invariant.1,
      subst (λ (x : ℕ). 0 < x) (sym next) (tenfold (value l.den) l.invariant.2),
      subst (λ (x : ℕ). x * 2000000000 < 2 ^ 448) (sym next) (next-den-room (value l.den) _ (value twice.result) twice.ensures reached c.requires),
    )

pub returns : goal.returns
returns c =
    let l = c.loop-places in
    let num = value c.args.num in
    let twice = c.times-twice in
    let all : l.places ≡ 83 = omega arith in
    let by : value l.den ≡ fewer 83 = l.invariant.0 ∙ ap fewer all in
    record { fewest = sym all ∙ places-all num (value twice.result) l.places twice.ensures l.invariant.1 (places-end (value twice.result) l.places all); by = by; some = l.invariant.2; nine = subst (λ (x : ℕ). num < x * 1000000000) (sym by) (all-nine num c.requires); room = l.invariant.3 }
