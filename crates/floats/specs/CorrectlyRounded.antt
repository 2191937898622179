-- What "correctly rounded root" says: every other binary32 value is farther from the root. And what the length of a vector can be.
-- `fits binary32 x ≡ true` says that x is a number of binary32.
use Rattle.std.specs.Prelude.{◌≡◌, ℕ, ◌+◌, ◌*◌, ◌^◌, ◌<◌, true, false, ℤ, pos, Float}
use Rattle.std.specs.Float.{nan, inf, fin, binary32}
use Rattle.std.specs.Float.Ieee.{fits}
use Rattle.floats.specs.Bits.{units_of}
use Rattle.floats.specs.Vector.{gdot_of}
use Rattle.floats.specs.declared.vector.Vector.{Vector}

-- Of the finite values that are not negative, r is nearest to √n. r and the other value, y = units_of m e, count units of 2^-149, as √n does.
-- The middle (r + y) / 2 lies above √n for each y above r, and below √n for each y below r. Both sides are doubled and squared, so that no real number is needed.
pub record Nearest (n r : ℕ) : Type 0 where
  pub above : (m : ℕ) (e : ℤ) → fits binary32 (fin false m e) ≡ true → r < units_of m e → 4 * n < (r + units_of m e) * (r + units_of m e)
  pub below : (m : ℕ) (e : ℤ) → fits binary32 (fin false m e) ≡ true → units_of m e < r → (r + units_of m e) * (r + units_of m e) < 4 * n

-- x is the correctly rounded root of m · 2 ^ e, a number of binary32: x is one too, finite, not negative, and the nearest. The root of U units is √(U * 2^149) units.
pub record CorrectlyRounded (m : ℕ) (e : ℤ) (x : Float) : Type 0 where
  pub radicand : fits binary32 (fin false m e) ≡ true
  pub significand : ℕ
  pub exponent : ℤ
  pub finite : x ≡ fin false significand exponent
  pub root : fits binary32 x ≡ true
  pub nearest : Nearest (units_of m e * 2 ^ 149) (units_of significand exponent)

-- The length of v by its dot with itself, which has one rounding for each product and one for the sum: NaN, infinite, +0, or the dot's correctly rounded root.
pub data LengthIs (v : Vector) (x : Float) : Type 0 where
  not_a_number : gdot_of v v ≡ nan → x ≡ nan → LengthIs v x
  infinite : gdot_of v v ≡ inf false → x ≡ inf false → LengthIs v x
  zero : gdot_of v v ≡ fin false 0 (pos 0) → x ≡ fin false 0 (pos 0) → LengthIs v x
  rounded : (m : ℕ) (e : ℤ) → gdot_of v v ≡ fin false m e → 0 < m → CorrectlyRounded m e x → LengthIs v x
