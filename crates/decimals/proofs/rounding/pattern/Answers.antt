-- `pattern` meets its contract: the digits that are kept, rounded, with the number of those dropped, are the pattern.
use mathlib.Core.Path.{◌≡◌, ap, ◌∙◌}
use mathlib.Core.Logic.{◌⊎◌, inl, inr}
use mathlib.Core.Bool.{false}
use Prim.Native.Nat.{ℕ, ◌≤◌, ◌<◌, ◌+◌, ◌-◌, ◌*◌, ◌/◌, ◌^◌}
use native.Mathlib.Nat.{mul-pos}
use native.Mathlib.Omega.{arith}
use lib.Pow.{pow_pos}
use lib.Ieee.{binary32, of_bits, size, units}
use lib.Ieee.Nearest.{closest}
use Rattle.decimals.specs.Limbs.{value}
use Rattle.decimals.specs.Rounding.{units_rounded}
use Rattle.decimals.proofs.RoundingLaws.{shift-room, kept-below, kept-reaches, kept-room, closest-le, full-digits}
use Rattle.decimals.proofs.PatternLaws.{pattern-small, pattern-large}
use Rattle.decimals.proofs.rounding.pattern.Goals as goal
use Rattle.decimals.proofs.rounding.pattern.Goals.{After-dropped-k}

at-digits : (n den k : ℕ) → k ≡ size (n / den) - 24 → units binary32 false (closest n (den * 2 ^ k)) k ≡ units_rounded n den
unfolding units_rounded
at-digits n den k e = ap (λ (j : ℕ). units binary32 false (closest n (den * 2 ^ j)) j) e

many : (n den k : ℕ) → 0 < den → 253 < k → (k ≡ 0) ⊎ (2 ^ 23 ≤ closest n (den * 2 ^ k)) → 2 ^ 23 ≤ closest n (den * 2 ^ k)
many n den k pos h f = elim f [ inl z ↦ absurd (omega arith) | inr g ↦ g ]

module _ (c : After-dropped-k) where
  abbrev n : ℕ
  n = value c.args.n

  abbrev den : ℕ
  den = value c.args.den

  abbrev k : ℕ
  k = c.dropped-k.result

  reaches : (k ≡ 0) ⊎ (den * 2 ^ k * 2 ^ 23 ≤ n)
  reaches = kept-reaches n den k c.requires.0 c.dropped-k.ensures

  full : (k ≡ 0) ⊎ (2 ^ 23 ≤ closest n (den * 2 ^ k))
  full = full-digits n den k c.requires.0 reaches

  kept : n < den * 2 ^ k * 2 ^ 24
  kept = kept-below n den k c.requires.0 c.dropped-k.ensures

  room : den * 2 ^ k * 2 ^ 25 < 2 ^ 448
  room = kept-room n den k reaches (shift-room den 25 (c.args.guess + 25) _ (omega arith) c.requires.3) c.requires.1

  pos : 0 < den * 2 ^ k
  pos = mul-pos c.requires.0 (pow_pos k)

  most : closest n (den * 2 ^ k) ≤ 2 ^ 24
  most = closest-le n (den * 2 ^ k) (2 ^ 24) pos kept

  alone : den * 2 ^ k < 2 ^ 448
  alone = less (den * 2 ^ k) (2 ^ 448) room
    where
      less : (d m : ℕ) → d * 2 ^ 25 < m → d < m
      less d m h = omega arith

pub returns-then-k-gt253 : goal.returns-then-k-gt253
returns-then-k-gt253 c =
    let d = (goal.at.returns-then-k-gt253 c).After-dropped-k in
    pattern-large (closest (n d) (den d * 2 ^ k d)) (k d) (many (n d) (den d) (k d) c.requires.0 c.if-k-gt253.true (full d)) c.if-k-gt253.true
    ∙ at-digits (n d) (den d) (k d) c.dropped-k.ensures

pub shifted-requires : goal.shifted-requires
shifted-requires c =
    let d = (goal.at.shifted-requires c).After-dropped-k in
    alone d

pub nearest-requires : goal.nearest-requires
nearest-requires c =
    let d = (goal.at.nearest-requires c).After-dropped-k in
    rw c.shifted.ensures (pos d, kept d, room d, omega arith)

pub overflow_add-result : goal.overflow_add-result
overflow_add-result c =
    let d = (goal.at.overflow_add-result c).After-dropped-k in
    omega (arith, c.nearest.ensures ∙ ap (closest (n d)) c.shifted.ensures, most d, c.if-k-gt253.false)

pub returns : goal.returns
returns c =
    let d = (goal.at.returns c).After-dropped-k in
    ap (λ (q : ℕ). of_bits binary32 (k d * 2 ^ 23 + q)) (c.nearest.ensures ∙ ap (closest (n d)) c.shifted.ensures)
    ∙ pattern-small (closest (n d) (den d * 2 ^ k d)) (k d) (most d) c.if-k-gt253.false (full d)
    ∙ at-digits (n d) (den d) (k d) d.dropped-k.ensures
