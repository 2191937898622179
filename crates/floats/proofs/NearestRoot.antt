-- The nearest root of t·4^k, for a t of 47 or 48 binary digits, is the half of ⌊√(4 t)⌋ + 1, times 2^k (`nearest-root-at`). So the k and the digits that the code finds are the definition's (`rounded`).
-- Each d that is not zero and below 2^24 is brought to 24 digits by a shift. Assumes nothing.
use Rattle.std.proofs.Common.{◌≡◌, ℕ, zero, suc, ◌+◌, ◌-◌, ◌*◌, ◌/◌, ◌%◌, ◌^◌, ◌<◌, ◌≤◌, false, sym, refl, ap, ◌∙◌, subst, lt_of_lt_of_le, lt_of_le_of_lt, mul-le-mul_right, mod-eq_of_lt, mul_assoc, mul-le-mul, mul-lt-mul_of_pos_right, mul-pos, pow-suc, mul-div_cancel, arith, pow_pos, pow_mono, pow-add, shl_lt, shl_exact}
use lib.Count.{count_leading_zeros, leading_top}
use lib.Ieee.{binary32, size, units}
use Rattle.floats.specs.Sqrt.{isqrt, nearest_root}
use Rattle.floats.proofs.Isqrt.{isqrt-reaches, isqrt-below}
use Rattle.floats.proofs.Pattern.{size_is, pow_lt_back}

pub four-pow : (k : ℕ) → 4 ^ k ≡ 2 ^ k * 2 ^ k
four-pow zero = refl
four-pow (suc k) = rw (pow-suc 4 k, pow-suc 2 k) (omega (arith, four-pow k))

module _ (t k : ℕ) (lo : 2 ^ 46 ≤ t) (hi : t < 2 ^ 48) where
  -- √(t * 4^k) lies from 2^(23 + k) up, below 2^(24 + k)
  low-square : 2 ^ (23 + k) * 2 ^ (23 + k) ≤ t * 4 ^ k
  low-square = rw (four-pow k, pow-add 2 23 k) (omega (arith, mul-le-mul_right (2 ^ k * 2 ^ k) lo))

  high-square : t * 4 ^ k < 2 ^ (24 + k) * 2 ^ (24 + k)
  high-square = rw (four-pow k, pow-add 2 24 k) (omega (arith, mul-lt-mul_of_pos_right hi (mul-pos (pow_pos k) (pow_pos k))))

  root-size : size (isqrt (t * 4 ^ k)) - 24 ≡ k
  root-size =
      omega (
        arith,
        size_is (isqrt (t * 4 ^ k)) (23 + k) (isqrt-reaches (2 ^ (23 + k)) (t * 4 ^ k) low-square)
            (subst (λ (x : ℕ). isqrt (t * 4 ^ k) < 2 ^ x) (one_more k) (isqrt-below (2 ^ (24 + k)) (t * 4 ^ k) high-square)),
      )
    where
      one_more : (k : ℕ) → 24 + k ≡ 23 + k + 1
      one_more k = omega arith

  cut : 4 * (t * 4 ^ k) / 4 ^ k ≡ 4 * t
  cut = ap (λ (x : ℕ). x / 4 ^ k) (sym (mul_assoc 4 t (4 ^ k))) ∙ mul-div_cancel (4 * t) (rw four-pow (mul-pos (pow_pos k) (pow_pos k)))

  pub nearest-root-at : nearest_root (t * 4 ^ k) ≡ units binary32 false ((isqrt (4 * t) + 1) / 2) k
  unfolding nearest_root
  nearest-root-at =
      ap (λ (j : ℕ). units binary32 false ((isqrt (4 * (t * 4 ^ k) / 4 ^ j) + 1) / 2) j) root-size ∙ ap (λ (x : ℕ). units binary32 false ((isqrt x + 1) / 2) k) cut

-- ---- the digits that the code works on

-- twice the root of such a t has 25 digits, and one more does not carry
pub twice-low : (t : ℕ) → 2 ^ 46 ≤ t → 2 ^ 24 ≤ isqrt (4 * t)
twice-low t h = isqrt-reaches (2 ^ 24) (4 * t) (omega arith)

pub twice-high : (t : ℕ) → t ≤ (2 ^ 24 - 1) * 2 ^ 24 → isqrt (4 * t) + 1 < 2 ^ 25
twice-high t h = omega (arith, isqrt-below (2 ^ 25 - 1) (4 * t) (omega arith))

-- of the root of d·2^f, for a d of 24 digits, so many digits are dropped
abbrev pub dropped : ℕ → ℕ
dropped f = (f - 23) / 2

-- d·2^f is this times 4 ^ dropped f
abbrev pub kept : ℕ → ℕ → ℕ
kept d f = d * 2 ^ (f - 2 * dropped f)

module _ (d f : ℕ) (d-lo : 2 ^ 23 ≤ d) (d-hi : d < 2 ^ 24) (f-lo : 23 ≤ f) where
  pub kept_low : 2 ^ 46 ≤ kept d f
  kept_low = mul-le-mul d-lo (pow_mono {i = 23} {j = f - 2 * dropped f} (omega arith))

  pub kept_high : kept d f ≤ (2 ^ 24 - 1) * 2 ^ 24
  kept_high = mul-le-mul {n₂ = 2 ^ 24 - 1} (omega arith) (pow_mono {i = f - 2 * dropped f} {j = 24} (omega arith))

  pub kept-shifted : d * 2 ^ (f - 2 * dropped f + 2) % 2 ^ 64 ≡ 4 * kept d f
  kept-shifted = shl_exact 24 (f - 2 * dropped f + 2) 64 d-hi (omega arith) ∙ rw (pow-add 2 (f - 2 * dropped f) 2) (omega arith)

  pub twice-bounds : (r : ℕ) → r ≡ isqrt (d * 2 ^ (f - 2 * dropped f + 2) % 2 ^ 64) → (2 ^ 24 ≤ r) × (r + 1 < 2 ^ 25)
  twice-bounds r e = omega (arith, e ∙ ap isqrt kept-shifted, twice-low (kept d f) kept_low, twice-high (kept d f) kept_high)

  pub kept_whole : d * 2 ^ f ≡ kept d f * 4 ^ dropped f
  kept_whole =
      ap (λ (x : ℕ). d * 2 ^ x) (parts f (dropped f) (omega arith))
      ∙ rw (pow-add 2 (f - 2 * dropped f) (dropped f + dropped f), pow-add 2 (dropped f) (dropped f), four-pow (dropped f)) (sym (mul_assoc d (2 ^ (f - 2 * dropped f)) (2 ^ dropped f * 2 ^ dropped f)))
    where
      parts : (f k : ℕ) → 2 * k ≤ f → f ≡ f - 2 * k + (k + k)
      parts f k h = omega arith

  pub rounded : nearest_root (d * 2 ^ f) ≡ units binary32 false ((isqrt (4 * kept d f) + 1) / 2) (dropped f)
  rounded = ap nearest_root kept_whole ∙ nearest-root-at (kept d f) (dropped f) kept_low (omega (arith, kept_high))

-- ---- a d that is not zero, brought to 24 digits

abbrev pub shift : ℕ → ℕ
shift d = count_leading_zeros 32 d - 8

module _ (d : ℕ) (pos : 0 < d) (small : d < 2 ^ 24) where
  -- the place of the leading digit
  place : (j : ℕ) × (count_leading_zeros 32 d + suc j ≡ 32) × (2 ^ j ≤ d) × (d < 2 ^ suc j)
  place = leading_top 32 d pos (lt_of_lt_of_le small (pow_mono {i = 24} {j = 32} (omega arith)))

  place-lt : place.0 < 24
  place-lt = pow_lt_back place.0 24 (lt_of_le_of_lt place.2 small)

  pub shift-eight : 8 ≤ count_leading_zeros 32 d
  shift-eight = omega (arith, place.1, place-lt)

  pub shift_le : shift d ≤ 23
  shift_le = omega (arith, place.1)

  sum : place.0 + shift d ≡ 23
  sum = omega (arith, place.1, place-lt)

  pub shifted-low : 2 ^ 23 ≤ d * 2 ^ shift d
  shifted-low = subst (λ (x : ℕ). x ≤ d * 2 ^ shift d) (sym (pow-add 2 place.0 (shift d)) ∙ ap (λ (x : ℕ). 2 ^ x) sum) (mul-le-mul_right (2 ^ shift d) place.2)

  pub shifted-high : d * 2 ^ shift d < 2 ^ 24
  shifted-high = subst (λ (x : ℕ). d * 2 ^ shift d < 2 ^ x) (more place.0 (shift d) sum) (shl_lt (suc place.0) (shift d) place.3)
    where
      more : (j s : ℕ) → j + s ≡ 23 → suc j + s ≡ 24
      more j s h = omega arith

  pub shifted-exact : d * 2 ^ shift d % 2 ^ 32 ≡ d * 2 ^ shift d
  shifted-exact = mod-eq_of_lt (lt_of_lt_of_le shifted-high (pow_mono {i = 24} {j = 32} (omega arith)))

  pub shifted-whole : (k : ℕ) → d * 2 ^ shift d * 2 ^ (k + 149 - shift d) ≡ d * 2 ^ k * 2 ^ 149
  shifted-whole k =
      mul_assoc d (2 ^ shift d) (2 ^ (k + 149 - shift d))
      ∙ ap (λ (x : ℕ). d * x) (sym (pow-add 2 (shift d) (k + 149 - shift d)) ∙ ap (λ (x : ℕ). 2 ^ x) (back (shift d) (omega (arith, shift_le))) ∙ pow-add 2 k 149)
      ∙ sym (mul_assoc d (2 ^ k) (2 ^ 149))
    where
      back : (s : ℕ) → s ≤ k + 149 → s + (k + 149 - s) ≡ k + 149
      back s h = omega arith
