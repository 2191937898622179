-- The pattern k * 2^23 + q, for a q of 24 binary digits, is that of q·2^k units of 2^-149. Assumes nothing.
use Rattle.std.proofs.Common.{◌≡◌, ℕ, ◌+◌, ◌-◌, ◌*◌, ◌/◌, ◌^◌, ◌<◌, ◌≤◌, Bool, false, cond, not, T, ltb, sym, ap, ◌∙◌, subst, lt_of_lt_of_le, lt_of_le_of_lt, lt_irrefl, mul-le-mul_right, lt_of_not-le, zero-add, mul-div_cancel, arith, pow_pos, pow_mono, pow-add, shl_lt}
use lib.Ieee.{Float, nan, inf, fin, binary32, up, down, size, odd, units, fits, to_bits, of_bits, is_nan, nan_bits}
use lib.Ieee.Digits.{size-lt, size-le}
use lib.Ieee.Exact.{HasValue, units_val}
use lib.Ieee.Fits.{down_pos, odd-fits, cond-fits, inf-fits}
use lib.Ieee.Bits.{of_bits-to_bits, nan_bits_is}

pub pow_lt_back : (i j : ℕ) → 2 ^ i < 2 ^ j → i < j
pow_lt_back i j h = lt_of_not-le (λ (g : j ≤ i). lt_irrefl (2 ^ i) (lt_of_lt_of_le h (pow_mono g)))

-- the number of digits, from the powers of two around a number
pub size_is : (n j : ℕ) → 2 ^ j ≤ n → n < 2 ^ (j + 1) → size n ≡ j + 1
size_is n j lo hi = omega (arith, size-le n (j + 1) hi, pow_lt_back j (size n) (lt_of_le_of_lt lo (size-lt n)))

-- a q of 24 digits, moved up by k
pub size-shifted : (q k : ℕ) → 2 ^ 23 ≤ q → q < 2 ^ 24 → size (q * 2 ^ k) ≡ 24 + k
size-shifted q k lo hi =
    size_is (q * 2 ^ k) (23 + k) (rw pow-add (mul-le-mul_right (2 ^ k) lo)) (subst (λ (x : ℕ). q * 2 ^ k < 2 ^ x) (one_more k) (shl_lt 24 k hi)) ∙ sym (one_more k)
  where
    one_more : (k : ℕ) → 24 + k ≡ 23 + k + 1
    one_more k = omega arith

pub to_bits-at : (x : Float) (a : ℕ) → HasValue x false a (2 ^ 149) → to_bits binary32 x ≡ (size a - 24) * 2 ^ 23 + a / 2 ^ (size a - 24)
unfolding to_bits
to_bits-at nan a h = absurd h
to_bits-at (inf s) a h = absurd h
to_bits-at (fin s m e) a h =
    ap (λ (t : Bool). cond t (2 ^ 31) 0 + (size n - 24) * 2 ^ 23 + n / 2 ^ (size n - 24)) h.0
    ∙ ap (λ (x : ℕ). 0 + (size x - 24) * 2 ^ 23 + x / 2 ^ (size x - 24)) (ap (λ (x : ℕ). x / down e) h.1 ∙ mul-div_cancel a (down_pos e))
    ∙ ap (λ (x : ℕ). x + a / 2 ^ (size a - 24)) (zero-add ((size a - 24) * 2 ^ 23))
  where
    n : ℕ
    n = m * up e * 2 ^ 149 / down e

module _ (q k : ℕ) (lo : 2 ^ 23 ≤ q) (hi : q < 2 ^ 24) (k-le : k ≤ 253) where
  pub in-range : q * 2 ^ k < 2 ^ 277
  in-range = lt_of_lt_of_le (shl_lt 24 k hi) (pow_mono {i = 24 + k} {j = 277} (omega arith))

  pub units-fits : T (fits binary32 (units binary32 false q k))
  unfolding units
  units-fits =
      cond-fits binary32 (ltb (q * 2 ^ k) (2 ^ 277)) (odd 25 false q k 149) (inf false) (odd-fits binary32 25 false q k (omega arith) (omega arith) in-range) (inf-fits binary32 false)

  bits_are : to_bits binary32 (units binary32 false q k) ≡ k * 2 ^ 23 + q
  bits_are =
      to_bits-at (units binary32 false q k) (q * 2 ^ k) (units_val binary32 false q k in-range)
      ∙ ap (λ (z : ℕ). (z - 24) * 2 ^ 23 + q * 2 ^ k / 2 ^ (z - 24)) (size-shifted q k lo hi)
      ∙ ap (λ (z : ℕ). z * 2 ^ 23 + q * 2 ^ k / 2 ^ z) (less k)
      ∙ ap (λ (z : ℕ). k * 2 ^ 23 + z) (mul-div_cancel q (pow_pos k))
    where
      less : (k : ℕ) → 24 + k - 24 ≡ k
      less k = omega arith

  pub pattern : of_bits binary32 (k * 2 ^ 23 + q) ≡ units binary32 false q k
  pattern = ap (of_bits binary32) (sym bits_are) ∙ of_bits-to_bits binary32 (units binary32 false q k) units-fits

  pub pattern-no-nan : T (not (nan_bits binary32 (k * 2 ^ 23 + q)))
  unfolding is_nan
  pattern-no-nan = rw (nan_bits_is binary32 (k * 2 ^ 23 + q), pattern) (number (units binary32 false q k) (units_val binary32 false q k in-range))
    where
      number : (x : Float) → HasValue x false (q * 2 ^ k) (2 ^ 149) → T (not (is_nan x))
      number nan h = h
      number (inf s) h = tt
      number (fin s m e) h = tt
