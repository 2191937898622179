-- The value of a finite binary32 number in units of 2 ^ -149: it has at most 24 digits, times a power of two (`units-digits`), and a number that equals a fraction of 2 ^ 149
-- has its numerator for value (`value-is`, `size_is`). Assumes nothing.
use Rattle.std.proofs.Common.{◌≡◌, ℕ, ◌*◌, ◌/◌, ◌^◌, ◌<◌, Bool, T, ℤ, refl, ap, ◌∙◌, mul-div_cancel}
use lib.Ieee.{Float, nan, inf, fin, binary32, up, down, fits}
use lib.Ieee.Exact.{HasValue}
use lib.Ieee.Fits.{down_pos}
use Rattle.floats.specs.Bits.{units_of, parts_of}
use Rattle.floats.specs.Value.{magnitude_of, exact_value_of, signed_units}
use Rattle.floats.proofs.BitsLaws.{Finite-parts, finite-parts}

-- at most 24 digits, times a power of two
pub units-digits : (s : Bool) (m : ℕ) (e : ℤ) → T (fits binary32 (fin s m e)) → (d : ℕ) × (k : ℕ) × (d < 2 ^ 24) × (units_of m e ≡ d * 2 ^ k)
unfolding parts_of
units-digits s m e h = go (finite-parts (fin s m e) s _ _ h refl)
  where
    go : {d k : ℕ} → Finite-parts (fin s m e) s d k → (d : ℕ) × (k : ℕ) × (d < 2 ^ 24) × (units_of m e ≡ d * 2 ^ k)
    go {d} {k} p = (d, k, p.digits, (let i = p.is in cc p.size))

-- ---- the value of a number that equals a fraction of 2 ^ 149

cut : (m : ℕ) (e : ℤ) (G : ℕ) → m * up e * 2 ^ 149 ≡ G * down e → units_of m e ≡ G
unfolding units_of
cut m e G h = ap (λ (x : ℕ). x / down e) h ∙ mul-div_cancel G (down_pos e)

pub size_is : (x : Float) (s : Bool) (G : ℕ) → HasValue x s G (2 ^ 149) → magnitude_of x ≡ G
unfolding magnitude_of
size_is nan s G v = absurd v
size_is (inf t) s G v = absurd v
size_is (fin t m e) s G v = cut m e G v.1

pub value-is : (x : Float) (s : Bool) (G : ℕ) → HasValue x s G (2 ^ 149) → exact_value_of x ≡ signed_units s G
unfolding exact_value_of
value-is nan s G v = absurd v
value-is (inf t) s G v = absurd v
value-is (fin t m e) s G v = ap (λ (b : Bool). signed_units b (units_of m e)) v.0 ∙ ap (signed_units s) (cut m e G v.1)
