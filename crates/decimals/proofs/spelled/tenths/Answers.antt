-- `tenths` meets its contract.
use mathlib.Core.Path.{◌≡◌, ap, ◌∙◌}
use Prim.Native.Nat.{ℕ, ◌*◌, ◌^◌, ◌<◌}
use native.Mathlib.Omega.{arith}
use Rattle.decimals.specs.Limbs.{value}
use Rattle.decimals.proofs.SpelledLaws.{units-below, units-room, fives-room, fives, tenths-room}
use Rattle.decimals.proofs.spelled.tenths.Goals as goal
use Rattle.decimals.proofs.spelled.tenths.Goals.{After-shifted-units, After-times_power, Start}

module _ (c : Start) where
  abbrev u : ℕ
  u = c.args.d * 2 ^ c.args.k

  below : u < 2 ^ 277
  below = units-below c.args.d c.args.k c.requires.0 c.requires.1

units : (c : After-shifted-units) → value c.shifted-units.result ≡ u c.before.before
units c = c.shifted-units.ensures ∙ ap (λ (x : ℕ). x * 2 ^ c.args.k) c.natural.ensures

product : (c : After-times_power) → value c.times_power.result ≡ u c.before.before.before * 1220703125 ^ 4
product c = c.times_power.ensures ∙ ap (λ (x : ℕ). x * 1220703125 ^ 4) (units c.before)

pub shifted-units-requires : goal.shifted-units-requires
shifted-units-requires c = rw c.natural.ensures (units-room _ (below c.before))

pub times_power-requires : goal.times_power-requires
times_power-requires c = (omega arith, rw (units c) (fives-room _ (below c.before.before)))

pub times-requires : goal.times-requires
times-requires c = rw (product c) (tenths-room _ (below c.before.before.before))

pub returns : goal.returns
returns c = c.times.ensures ∙ ap (λ (x : ℕ). x * 5) (product c.before) ∙ fives _ (below c.before.before.before.before)
