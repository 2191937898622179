-- Document 01's micro report with request R-3's rounding: an impulse in millionths, to the nearest whole number, half to even. Its three answers are a whole number, Over and NaN.
use Rattle.std.specs.Prelude.{◌≡◌, ℕ, ◌+◌, ◌-◌, ◌*◌, ◌/◌, ◌%◌, ◌^◌, ◌≤◌, Bool, cond, pos, neg_ℤ, ◌≢◌, nat_le, Float}
use Prim.Native.Nat.{compare}
use Rattle.std.specs.Float.{nan, inf, fin}
use Rattle.std.specs.Float.Ieee.{up, down, nearest}
use Rattle.floats.specs.declared.micro_report.MicroReport.{MicroReport}
use Rattle.floats.specs.declared.micro_report.MicroReport.TheVariants.{Whole, Over, Nan}

-- num / den to the nearest whole number: the whole part where twice the remainder is below den, the next number up where it is above, and at den, half way between the two, the even one
unfoldable pub half_even : ℕ → ℕ → ℕ
half_even num den = nearest (num / den) (compare (num % den * 2) den)

-- What that says of r: no whole number is nearer to num / den, and where another one is as near, r is even. Distances are multiplied by den, so that they are whole numbers.
-- That `half_even num den` is such a number, and the only one, is the theorem of proofs/HalfEven.antt.
abbrev pub distance : ℕ → ℕ → ℕ
distance a b = a - b + (b - a)

pub record NearestEven (num den r : ℕ) : Type 0 where
  pub least : (n : ℕ) → distance num (r * den) ≤ distance num (n * den)
  pub even : (n : ℕ) → (n ≢ r) → distance num (n * den) ≡ distance num (r * den) → r % 2 ≡ 0

-- Over from a rounded size of 2 ^ 31 on, of either sign: so from 2 ^ 31 less a half on, which rounds up. A size of 0 has no sign.
unfoldable pub whole_or_over : Bool → ℕ → MicroReport
whole_or_over negative size = cond (nat_le (2 ^ 31) size) Over (Whole (cond negative (neg_ℤ (pos size)) (pos size)))

-- m · 2 ^ e is m * up e / down e
unfoldable pub micro_report_of : Float → MicroReport
unfolding whole_or_over half_even
micro_report_of nan = Nan
micro_report_of (inf s) = Over
micro_report_of (fin s m e) = whole_or_over s (half_even (m * up e * 10 ^ 6) (down e))
