-- The square root of a number, by its parts: of each case of `parts_of`'s answer, what `sqrt_of` gives. Assumes nothing.
use Rattle.std.proofs.Common.{◌≡◌, ℕ, ◌*◌, ◌^◌, Bool, true, false, cond, eqb, ℤ, sym, refl, ap, ◌∙◌, eqb→eq}
use lib.Dec.{not_T}
use lib.Ieee.{Float, nan, inf, fin, binary32, div, of_bits}
use lib.Ieee.Bits.{cond_no}
use Rattle.floats.specs.declared.bits.Parts.TheVariants.{Nan, Infinite}
use Rattle.floats.specs.Bits.{parts_of, units_of}
use Rattle.floats.specs.Sqrt.{nearest_root, sqrt_of}
use Rattle.floats.proofs.BitsLaws.{Finite-parts, zero-significand, zero-digits}

is-nan : (x : Float) → parts_of x ≡ Nan → x ≡ nan
unfolding parts_of
is-nan nan h = refl
is-nan (inf s) h = cc
is-nan (fin s m e) h = cc

is-infinite : (x : Float) (t : Bool) → parts_of x ≡ Infinite t → x ≡ inf t
unfolding parts_of
is-infinite nan t h = cc
is-infinite (inf s) t h = cc
is-infinite (fin s m e) t h = cc

-- the code writes a NaN as 0.0 / 0.0
pub zero_by_zero : div binary32 (of_bits binary32 0) (of_bits binary32 0) ≡ nan
unfolding div of_bits
zero_by_zero = refl

pub root-of-nan : (x : Float) → parts_of x ≡ Nan → x ≡ sqrt_of x
unfolding sqrt_of
root-of-nan x h = is-nan x h ∙ sym (ap sqrt_of (is-nan x h))

module _ (x : Float) (s : Bool) (h : parts_of x ≡ Infinite s) where
  pub root-of-infinity : s ≡ false → x ≡ sqrt_of x
  unfolding sqrt_of
  root-of-infinity e = rw (is-infinite x s h, e)

  pub root-of-negative-infinity : s ≡ true → nan ≡ sqrt_of x
  unfolding sqrt_of
  root-of-negative-infinity e = rw (is-infinite x s h, e)

at_zero : (s : Bool) (m : ℕ) (e : ℤ) → m ≡ 0 → sqrt_of (fin s m e) ≡ fin s m e
unfolding sqrt_of
at_zero s m e h = rw h

pub at-number : (s : Bool) (m : ℕ) (e : ℤ) → (m ≡ 0 → ⊥) → sqrt_of (fin s m e) ≡ cond s nan (nearest_root (units_of m e * 2 ^ 149))
unfolding sqrt_of
at-number s m e h = cond_no (eqb m 0) (fin s m e) (cond s nan (nearest_root (units_of m e * 2 ^ 149))) (not_T (eqb m 0) (λ t. h (eqb→eq m 0 t)))

module _ (x : Float) (s : Bool) (d k : ℕ) (p : Finite-parts x s d k) where
  pub root-of-zero : d ≡ 0 → x ≡ sqrt_of x
  root-of-zero z = p.is ∙ sym (at_zero s p.significand p.exponent (zero-significand p z)) ∙ sym (ap sqrt_of p.is)

  root-of-number : (d ≡ 0 → ⊥) → cond s nan (nearest_root (d * 2 ^ k * 2 ^ 149)) ≡ sqrt_of x
  root-of-number n =
      ap (λ (u : ℕ). cond s nan (nearest_root (u * 2 ^ 149))) (sym p.size)
      ∙ sym (at-number s p.significand p.exponent (λ z. n (zero-digits p z)))
      ∙ sym (ap sqrt_of p.is)

  pub root-of-negative : (d ≡ 0 → ⊥) → s ≡ true → nan ≡ sqrt_of x
  root-of-negative n e = ap (λ (b : Bool). cond b nan (nearest_root (d * 2 ^ k * 2 ^ 149))) (sym e) ∙ root-of-number n

  pub root-of-positive : (d ≡ 0 → ⊥) → s ≡ false → nearest_root (d * 2 ^ k * 2 ^ 149) ≡ sqrt_of x
  root-of-positive n e = ap (λ (b : Bool). cond b nan (nearest_root (d * 2 ^ k * 2 ^ 149))) (sym e) ∙ root-of-number n
