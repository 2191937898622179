-- `scaled_down` meets its contract: w units of 1, in units of 2^-149, over the power of ten.
use mathlib.Core.Path.{◌≡◌, ap, ◌∙◌}
use Prim.Native.Nat.{ℕ, ◌*◌, ◌^◌}
use native.Mathlib.Omega.{arith}
use Rattle.decimals.specs.Limbs.{value}
use Rattle.decimals.proofs.DecimalLaws.{down_is, word_room, to-448, ten-room, ten-shift-room, ten-pos}
use Rattle.decimals.proofs.rounding.scaled_down.Goals as goal
use Rattle.decimals.proofs.rounding.scaled_down.Goals.{After-times_ten}

units : (c : After-times_ten) → value c.shifted.result ≡ c.args.w * 2 ^ 149
units c = c.shifted.ensures ∙ ap (λ (x : ℕ). x * 2 ^ 149) c.natural.ensures

tens : (c : After-times_ten) → value c.times_ten.result ≡ 1 * 10 ^ c.args.n
tens c = c.times_ten.ensures ∙ ap (λ (x : ℕ). x * 10 ^ c.args.n) c.natural-2.ensures

pub shifted-requires : goal.shifted-requires
shifted-requires c = rw c.natural.ensures (to-448 _ (word_room _ c.ranges.w.fits))

pub times_ten-requires : goal.times_ten-requires
times_ten-requires c = rw c.natural-2.ensures (ten-room _ c.requires)

pub pattern-requires : goal.pattern-requires
pattern-requires c =
    rw (units c, tens c)
    (ten-pos _, word_room _ c.ranges.w.fits, omega (arith, c.guess_down-guess.ensures), ten-shift-room _ _ c.requires c.guess_down-guess.ensures)

pub returns : goal.returns
returns c = c.pattern.ensures ∙ down_is _ _ _ _ (units c.before) (tens c.before)
