-- The root that document 01 takes for a length: correctly rounded, infinity stays, NaN stays. It is found by integer work.
-- That it is the nearest binary32 value, in the sense of specs/CorrectlyRounded.antt, is the theorem of proofs/SqrtNearest.antt.
use Rattle.std.specs.Prelude.{ℕ, zero, suc, ◌+◌, ◌-◌, ◌*◌, ◌/◌, ◌^◌, false, cond, ◌==◌, nat_le, Float}
use Rattle.std.specs.Float.{nan, inf, fin, binary32}
use Rattle.std.specs.Float.Ieee.{size, units}
use Rattle.floats.specs.Bits.{units_of}

-- The square root of n without its fraction, by binary digits from the top: r holds the digits found so far, and d are still to find.
unfoldable pub isqrt_from : ℕ → ℕ → ℕ → ℕ
isqrt_from zero n r = r
isqrt_from (suc d) n r = isqrt_from d n (cond (nat_le ((r + 2 ^ d) * (r + 2 ^ d)) n) (r + 2 ^ d) r)

unfoldable pub isqrt : ℕ → ℕ
unfolding isqrt_from size
isqrt n = isqrt_from (size n) n 0

-- The binary32 value nearest to √n, which counts units of 2^-149. It keeps the 24 leading digits of √n and drops k: it is √n / 2^k to the nearest whole number,
-- the half of ⌊2√n / 2^k⌋ + 1 without its fraction. The root of a binary32 value never lies half way between two values.
unfoldable pub nearest_root : ℕ → Float
unfolding isqrt size units
nearest_root n = let k = size (isqrt n) - 24 in units binary32 false ((isqrt (4 * n / 4 ^ k) + 1) / 2) k

-- Both zeros stay, and a number below zero has a NaN for its root, as in IEEE 754. The root of U units is √(U * 2^149) units.
unfoldable pub sqrt_of : Float → Float
unfolding nearest_root
sqrt_of nan = nan
sqrt_of (inf s) = cond s nan (inf false)
sqrt_of (fin s m e) = cond (m == 0) (fin s m e) (cond s nan (nearest_root (units_of m e * 2 ^ 149)))
