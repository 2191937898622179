-- `scaled_up` meets its contract: w·10^n in units of 2^-149.
use mathlib.Core.Path.{◌≡◌, ap, ◌∙◌}
use Prim.Native.Nat.{ℕ, ◌*◌, ◌^◌}
use native.Mathlib.Omega.{arith}
use Rattle.decimals.specs.Limbs.{value}
use Rattle.decimals.proofs.DecimalLaws.{up_is, tens-room, tens-shift-room, to-448, one-shift-room}
use Rattle.decimals.proofs.rounding.scaled_up.Goals as goal
use Rattle.decimals.proofs.rounding.scaled_up.Goals.{After-shifted, After-times_ten}

tens : (c : After-times_ten) → value c.times_ten.result ≡ c.args.w * 10 ^ c.args.n
tens c = c.times_ten.ensures ∙ ap (λ (x : ℕ). x * 10 ^ c.args.n) c.natural.ensures

units : (c : After-shifted) → value c.shifted.result ≡ c.args.w * 10 ^ c.args.n * 2 ^ 149
units c = c.shifted.ensures ∙ ap (λ (x : ℕ). x * 2 ^ 149) (tens c.before)

pub times_ten-requires : goal.times_ten-requires
times_ten-requires c = rw c.natural.ensures (tens-room _ c.ranges.w.fits _ c.requires)

pub shifted-requires : goal.shifted-requires
shifted-requires c = rw (tens c) (to-448 _ (tens-shift-room _ c.ranges.w.fits _ c.requires))

pub pattern-requires : goal.pattern-requires
pattern-requires c =
    rw (units c.before, c.natural-2.ensures)
    (omega arith, tens-shift-room _ c.ranges.w.fits _ c.requires, omega (arith, c.guess_up-guess.ensures), one-shift-room _ c.guess_up-guess.ensures)

pub returns : goal.returns
returns c = c.pattern.ensures ∙ up_is _ _ _ _ (units c.before.before) c.natural-2.ensures
