-- The number w · 10^a / 10^b, rounded once to binary32: `round` of the account of IEEE 754 takes an exact fraction of whole numbers to the nearest value,
-- ties to even; from half a unit above the largest number on it is an infinity.
use Rattle.std.specs.Prelude.{Bool, false, ◌⊎◌, ◌≡◌, ℕ, ◌+◌, ◌-◌, ◌*◌, ◌/◌, ◌^◌, ◌≤◌, Float}
use Rattle.std.specs.Float.{binary32}
use Rattle.std.specs.Float.Ieee.{size, units, round}
use Rattle.std.specs.Float.Ieee.Nearest.{closest}

unfoldable pub decimal_of : Bool → ℕ → ℕ → ℕ → Float
decimal_of negative w a b = round binary32 negative (w * 10 ^ a) (10 ^ b)

-- ---- how the program rounds; nothing here need be believed

-- n / den units of 2^-149, of which k binary digits are dropped
unfoldable pub units_rounded : ℕ → ℕ → Float
units_rounded n den = units binary32 false (closest n (den * 2 ^ (size (n / den) - 24))) (size (n / den) - 24)

-- a number of digits that n / den has beyond 24, or none
pub record StartsBelow (n den guess k : ℕ) : Type 0 where
  pub at-most : k ≤ guess
  pub reaches : (k ≡ 0) ⊎ (den * 2 ^ (k + 23) ≤ n)
