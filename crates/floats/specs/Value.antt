-- A finite binary32 number as a whole number of units of 2^-149, the smallest positive value, of which each is a multiple. And the spacing of the values around it.
use Rattle.std.specs.Prelude.{◌≡◌, ℕ, ◌-◌, ◌*◌, ◌^◌, ◌≤◌, Bool, cond, ◌⊎◌, ℤ, pos, neg_ℤ, Float}
use Rattle.std.specs.Float.{nan, inf, fin}
use Rattle.std.specs.Float.Ieee.{size}
use Rattle.floats.specs.Bits.{units_of}

-- n units, negative where s is true
abbrev pub signed_units : Bool → ℕ → ℤ
signed_units s n = cond s (neg_ℤ (pos n)) (pos n)

-- the value of a finite number, and its size, in units of 2^-149; of a NaN and of an infinity 0
unfoldable pub exact_value_of : Float → ℤ
exact_value_of nan = pos 0
exact_value_of (inf s) = pos 0
exact_value_of (fin s m e) = signed_units s (units_of m e)

unfoldable pub magnitude_of : Float → ℕ
magnitude_of nan = 0
magnitude_of (inf s) = 0
magnitude_of (fin s m e) = units_of m e

-- The spacing at a finite number: from it to the next value away from zero, in units of 2^-149. A number of n units has `size n` binary digits, of which binary32
-- keeps 24. At a power of two the next value towards zero is half as far: this is the wider one. At zero and below 2^-125 it is one unit.
unfoldable pub spacing_of : Float → ℕ
unfolding magnitude_of size
spacing_of x = 2 ^ (size (magnitude_of x) - 24)

-- The exact product of two finite numbers is zero, or at least 2^-126 in size, the least normal number. Two sizes multiplied count units of 2^-298, and 2^172 of these are 2^-126.
abbrev pub ZeroOrNormal : Float → Float → Type 0
ZeroOrNormal p m = (magnitude_of p * magnitude_of m ≡ 0) ⊎ (2 ^ 172 ≤ magnitude_of p * magnitude_of m)
