-- `nine_of` meets its contract.
use mathlib.Core.Path.{◌≡◌, ap, ◌∙◌}
use Prim.Native.Nat.{ℕ, ◌*◌, ◌^◌, ◌<◌}
use native.Mathlib.Nat.{mul-pos}
use native.Mathlib.Omega.{arith}
use lib.Pow.{pow_pos}
use lib.Ieee.Nearest.{closest}
use Rattle.decimals.specs.Limbs.{value}
use Rattle.decimals.specs.Spelled.{fewer, tenths, places_of}
use Rattle.decimals.proofs.SpelledLaws.{units-below, tenths-below, nine-zero, nine-some}
use Rattle.decimals.proofs.spelled.nine_of.Goals as goal

some : (d : ℕ) → (d ≡ 0 → ⊥) → 0 < d
some d h = omega arith

pub returns-then-d-eq0 : goal.returns-then-d-eq0
returns-then-d-eq0 c = nine-zero c.args.d c.args.k c.if-d-eq0.true

pub dropped-by-requires : goal.dropped-by-requires
dropped-by-requires c = rw c.tenths-num.ensures (tenths-below _ (units-below c.args.d c.args.k c.requires.0 c.requires.1))

pub returns : goal.returns
returns c =
    let a = c.args in
    let n = a.d * 2 ^ a.k in
    let num = c.tenths-num in
    let by = c.dropped-by in
    let places : by.result.places ≡ places_of (tenths n) = by.ensures.fewest ∙ ap places_of num.ensures in
    nine-some n _ _ (mul-pos (some a.d c.if-d-eq0.false) (pow_pos a.k))
    (c.nearest.ensures ∙ ap (λ (x : ℕ). closest x (value by.result.den)) num.ensures ∙ ap (closest (tenths n)) (by.ensures.by ∙ ap fewer places)) places
