-- The pattern k * 2^23 + q is that of q·2^k units of 2^-149, for a q of 24 binary digits, or fewer where k is 0, or 2^24; past the largest number it is an infinity's.
use mathlib.Core.Path.{◌≡◌, refl, sym, ap, ◌∙◌, subst}
use mathlib.Core.Logic.{◌⊎◌, inl, inr}
use mathlib.Core.Bool.{Bool, true, false, cond}
use Prim.Native.Nat.{ℕ, ◌+◌, ◌-◌, ◌*◌, ◌/◌, ◌^◌, ◌≤◌, ◌<◌}
use native.Mathlib.Nat.{le_refl, le_trans, le_of_eq, lt_of_lt_of_le, eq-or-lt_of_le, mul_assoc, mul-one, mul-div_cancel, mul-le-mul_right}
use native.Mathlib.Omega.{arith}
use borrow.Author.Tests.{le-ltb, ltb-true, ltb-false}
use lib.Dec.{T, ltb}
use lib.Pow.{pow-add, pow_mono, pow_pos, pow-lt, shl_lt}
use lib.Ieee.{inf, binary32, size, odd, units, fits, of_bits}
use lib.Ieee.Digits.{size-le}
use lib.Ieee.Exact.{units_val}
use lib.Ieee.Fits.{odd-fits, cond-fits, inf-fits}
use lib.Ieee.Bits.{of_bits-to_bits}
use Rattle.floats.proofs.Pattern.{size-shifted, to_bits-at}

pub side : (a b : ℕ) → (a < b) ⊎ (b ≤ a)
side a b = go (ltb a b) refl
  where
    go : (t : Bool) → ltb a b ≡ t → (a < b) ⊎ (b ≤ a)
    go true e = inl (ltb-true a b e)
    go false e = inr (ltb-false a b e)

-- how the magnitude's digits make the pattern, in the three cases
low_bits : (q : ℕ) → q < 2 ^ 23 → (size (q * 2 ^ 0) - 24) * 2 ^ 23 + q * 2 ^ 0 / 2 ^ (size (q * 2 ^ 0) - 24) ≡ q
low_bits q h =
    ap (λ (z : ℕ). z * 2 ^ 23 + q * 2 ^ 0 / 2 ^ z) few ∙ omega arith
  where
    few : size (q * 2 ^ 0) - 24 ≡ 0
    few = let l : size (q * 2 ^ 0) ≤ 23 = size-le (q * 2 ^ 0) 23 (subst (λ (x : ℕ). x < 2 ^ 23) (sym (mul-one q)) h) in omega arith

mid-bits : (q k : ℕ) → 2 ^ 23 ≤ q → q < 2 ^ 24 → (size (q * 2 ^ k) - 24) * 2 ^ 23 + q * 2 ^ k / 2 ^ (size (q * 2 ^ k) - 24) ≡ k * 2 ^ 23 + q
mid-bits q k lo hi =
    ap (λ (z : ℕ). (z - 24) * 2 ^ 23 + q * 2 ^ k / 2 ^ (z - 24)) (size-shifted q k lo hi)
    ∙ ap (λ (z : ℕ). z * 2 ^ 23 + q * 2 ^ k / 2 ^ z) (less k)
    ∙ ap (λ (z : ℕ). k * 2 ^ 23 + z) (mul-div_cancel q (pow_pos k))
  where
    less : (k : ℕ) → 24 + k - 24 ≡ k
    less k = omega arith

-- 2^24 is the next power of two
top-bits : (k : ℕ) → (size (2 ^ 24 * 2 ^ k) - 24) * 2 ^ 23 + 2 ^ 24 * 2 ^ k / 2 ^ (size (2 ^ 24 * 2 ^ k) - 24) ≡ k * 2 ^ 23 + 2 ^ 24
top-bits k =
    ap (λ (z : ℕ). (size z - 24) * 2 ^ 23 + z / 2 ^ (size z - 24)) moved ∙ mid-bits (2 ^ 23) (1 + k) (omega arith) (omega arith) ∙ omega arith
  where
    moved : 2 ^ 24 * 2 ^ k ≡ 2 ^ 23 * 2 ^ (1 + k)
    moved = mul_assoc (2 ^ 23) 2 (2 ^ k) ∙ ap (λ (x : ℕ). 2 ^ 23 * x) (sym (pow-add 2 1 k))

bits_of : (q k : ℕ) → q ≤ 2 ^ 24 → (k ≡ 0) ⊎ (2 ^ 23 ≤ q) → (size (q * 2 ^ k) - 24) * 2 ^ 23 + q * 2 ^ k / 2 ^ (size (q * 2 ^ k) - 24) ≡ k * 2 ^ 23 + q
bits_of q k le (inr lo) = elim (eq-or-lt_of_le le) [ inl e ↦ rw e (top-bits k) | inr l ↦ mid-bits q k lo l ]
bits_of q k le (inl z) = rw z (go (eq-or-lt_of_le le))
  where
    go : (q ≡ 2 ^ 24) ⊎ (q < 2 ^ 24) → (size (q * 2 ^ 0) - 24) * 2 ^ 23 + q * 2 ^ 0 / 2 ^ (size (q * 2 ^ 0) - 24) ≡ 0 * 2 ^ 23 + q
    go (inl e) = rw e (top-bits 0)
    go (inr l) = near (side q (2 ^ 23))
      where
        near : (q < 2 ^ 23) ⊎ (2 ^ 23 ≤ q) → (size (q * 2 ^ 0) - 24) * 2 ^ 23 + q * 2 ^ 0 / 2 ^ (size (q * 2 ^ 0) - 24) ≡ 0 * 2 ^ 23 + q
        near (inl s) = low_bits q s ∙ omega arith
        near (inr g) = mid-bits q 0 g l

module _ (q k : ℕ) (le : q ≤ 2 ^ 24) (full : (k ≡ 0) ⊎ (2 ^ 23 ≤ q)) (in-range : q * 2 ^ k < 2 ^ 277) where
  units-fits : T (fits binary32 (units binary32 false q k))
  unfolding units
  units-fits =
      cond-fits binary32 (ltb (q * 2 ^ k) (2 ^ 277)) (odd 25 false q k 149) (inf false) (odd-fits binary32 25 false q k (omega arith) le in-range) (inf-fits binary32 false)

  pub pattern : of_bits binary32 (k * 2 ^ 23 + q) ≡ units binary32 false q k
  pattern =
      ap (of_bits binary32) (sym (to_bits-at (units binary32 false q k) (q * 2 ^ k) (units_val binary32 false q k in-range) ∙ bits_of q k le full))
      ∙ of_bits-to_bits binary32 (units binary32 false q k) units-fits

-- from 2^128 on
pub units-over : (s : Bool) (q k : ℕ) → 2 ^ 277 ≤ q * 2 ^ k → units binary32 s q k ≡ inf s
unfolding units
units-over s q k h = ap (λ (t : Bool). cond t (odd 25 s q k 149) (inf s)) (le-ltb (q * 2 ^ k) (2 ^ 277) h)

infinite-bits : of_bits binary32 0x7f800000 ≡ inf false
unfolding of_bits
infinite-bits = refl

-- ---- every pattern up to the infinity's
pub pattern-small : (q k : ℕ) → q ≤ 2 ^ 24 → k ≤ 253 → (k ≡ 0) ⊎ (2 ^ 23 ≤ q) → of_bits binary32 (k * 2 ^ 23 + q) ≡ units binary32 false q k
pattern-small q k le small full = go (eq-or-lt_of_le le) (eq-or-lt_of_le small)
  where
    go : (q ≡ 2 ^ 24) ⊎ (q < 2 ^ 24) → (k ≡ 253) ⊎ (k < 253) → of_bits binary32 (k * 2 ^ 23 + q) ≡ units binary32 false q k
    go (inr l) b = pattern q k le full (lt_of_lt_of_le (shl_lt 24 k l) (pow_mono {i = 24 + k} {j = 277} (omega arith)))
    go (inl e) (inr l) = pattern q k le full (subst (λ (x : ℕ). x < 2 ^ 277) (pow-add 2 24 k ∙ ap (λ (x : ℕ). x * 2 ^ k) (sym e)) (pow-lt {i = 24 + k} {j = 277} (omega arith)))
    go (inl e) (inl f) = rw (e, f) (infinite-bits ∙ sym (units-over false (2 ^ 24) 253 (le_refl (2 ^ 277))))

pub pattern-large : (q k : ℕ) → 2 ^ 23 ≤ q → 253 < k → of_bits binary32 0x7f800000 ≡ units binary32 false q k
pattern-large q k full large =
    infinite-bits
    ∙ sym (units-over false q k (le_trans (pow_mono {i = 277} {j = 23 + k} (omega arith)) (le_trans (le_of_eq (pow-add 2 23 k)) (mul-le-mul_right (2 ^ k) full))))
