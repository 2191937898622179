-- `sqrt_of` is correctly rounded: the root of a positive binary32 value is finite and a binary32 value, and every other binary32 value is farther from the exact root (`sqrt-nearest`).
-- The root is q·p units, p a power of two, with (2 q - 1)²·p² < 4 n < (2 q + 1)²·p². A value y above it is at least (q + 1)·p, and one below it is at most (q - 1)·p,
-- or q is the least number of 24 digits, and then the root is not below q·p. Assumes nothing.
use Rattle.std.proofs.Common.{◌≡◌, ℕ, ◌+◌, ◌-◌, ◌*◌, ◌/◌, ◌^◌, ◌<◌, ◌≤◌, Bool, true, false, not, T, leb, ◌⊎◌, ℤ, sym, refl, ap, ◌∙◌, subst, inl, inr, lt_of_lt_of_le, mul-le-mul_right, mul_assoc, mul-le-mul, lt_of_mul-lt-mul_right, eq-or-lt_of_le, mul-lt-mul_of_pos_right, mul-pos, lt_of_not-le, mul-div_cancel, arith, leb→le, pow_pos, pow_mono, pow-add, shl_lt}
use lib.Dec.{nleb→lt}
use lib.Ieee.{Float, nan, inf, fin, binary32, down, units, fits}
use lib.Ieee.Bits.{is_true}
use lib.Ieee.Fits.{down_pos}
use lib.Ieee.Exact.{HasValue, units_val}
use Rattle.floats.specs.Bits.{parts_of, units_of}
use Rattle.floats.specs.Sqrt.{isqrt, nearest_root, sqrt_of}
use Rattle.floats.specs.CorrectlyRounded.{Nearest, CorrectlyRounded}
use Rattle.floats.proofs.BitsLaws.{Finite-parts, finite-parts, zero-significand}
use Rattle.floats.proofs.Isqrt.{isqrt-le, isqrt-lt}
use Rattle.floats.proofs.Pattern.{in-range, units-fits}
use Rattle.floats.proofs.NearestRoot.{four-pow, dropped, kept, kept_low, kept_high, kept_whole, twice-low, twice-high, rounded, shift, shift_le, shifted-low, shifted-high, shifted-whole}
use Rattle.floats.proofs.SqrtLaws.{at-number}

square-lt : (a c : ℕ) → a < c → a * a < c * c
square-lt a c h = omega (arith, mul-le-mul h h)

-- ---- the digits: q = b + 1 is half of ⌊√(4 t)⌋ + 1

module _ (b t : ℕ) (half : b + 1 ≡ (isqrt (4 * t) + 1) / 2) where
  -- 2 q - 1 is odd, so its square is not 4 t
  half-low : (2 * b + 1) * (2 * b + 1) < 4 * t
  half-low = go (omega arith)
    where
      go : 2 * b + 1 ≤ isqrt (4 * t) → (2 * b + 1) * (2 * b + 1) < 4 * t
      go h = omega (arith, mul-le-mul h h, isqrt-le (4 * t))

  half_high : 4 * t < (2 * b + 3) * (2 * b + 3)
  half_high = go (omega arith)
    where
      go : isqrt (4 * t) + 1 ≤ 2 * b + 3 → 4 * t < (2 * b + 3) * (2 * b + 3)
      go h = omega (arith, mul-le-mul h h, isqrt-lt (4 * t))

-- ---- the middle of r = q·p and a value y

module _ (b t p : ℕ) (half : b + 1 ≡ (isqrt (4 * t) + 1) / 2) (pos : 0 < p) where
  above-by : (y : ℕ) → (b + 2) * p ≤ y → 4 * (t * (p * p)) < ((b + 1) * p + y) * ((b + 1) * p + y)
  above-by y h = go (omega arith)
    where
      go : (2 * b + 3) * p ≤ (b + 1) * p + y → 4 * (t * (p * p)) < ((b + 1) * p + y) * ((b + 1) * p + y)
      go g = omega (arith, mul-le-mul g g, mul-lt-mul_of_pos_right (half_high b t half) (mul-pos pos pos))

  below_by : (y : ℕ) → y ≤ b * p → ((b + 1) * p + y) * ((b + 1) * p + y) < 4 * (t * (p * p))
  below_by y h = go (omega arith)
    where
      go : (b + 1) * p + y ≤ (2 * b + 1) * p → ((b + 1) * p + y) * ((b + 1) * p + y) < 4 * (t * (p * p))
      go g = omega (arith, mul-le-mul g g, mul-lt-mul_of_pos_right (half-low b t half) (mul-pos pos pos))

  below-least : (y : ℕ) → b + 1 ≡ 2 ^ 23 → 2 ^ 46 ≤ t → y < (b + 1) * p → ((b + 1) * p + y) * ((b + 1) * p + y) < 4 * (t * (p * p))
  below-least y e lo h = rw e (go (rw e at h))
    where
      go : y < 2 ^ 23 * p → (2 ^ 23 * p + y) * (2 ^ 23 * p + y) < 4 * (t * (p * p))
      go g = omega (arith, square-lt (2 ^ 23 * p + y) (2 ^ 24 * p) (omega arith), mul-le-mul_right (p * p) lo)

-- ---- the values around r: y is a number d of at most 24 digits times 2 ^ j

-- with a power of at least k it is a multiple of 2 ^ k, and with a lower one it is below each number of 24 digits times 2 ^ k
multiple : (d j k : ℕ) → k ≤ j → d * 2 ^ j ≡ d * 2 ^ (j - k) * 2 ^ k
multiple d j k h = ap (λ (i : ℕ). d * 2 ^ i) (back j k h) ∙ ap (λ (x : ℕ). d * x) (pow-add 2 (j - k) k) ∙ sym (mul_assoc d (2 ^ (j - k)) (2 ^ k))
  where
    back : (j k : ℕ) → k ≤ j → j ≡ j - k + k
    back j k h = omega arith

fewer : (d j k : ℕ) → d < 2 ^ 24 → j < k → d * 2 ^ j < 2 ^ 23 * 2 ^ k
fewer d j k small h = lt_of_lt_of_le (shl_lt 24 j small) (subst (λ (x : ℕ). 2 ^ (24 + j) ≤ x) (pow-add 2 23 k) (pow_mono {i = 24 + j} {j = 23 + k} (omega arith)))

order : (k j : ℕ) → (k ≤ j) ⊎ (j < k)
order k j = go (leb k j) (leb→le k j) (nleb→lt k j)
  where
    go : (c : Bool) → (T c → k ≤ j) → (T (not c) → j < k) → (k ≤ j) ⊎ (j < k)
    go true f g = inl (f tt)
    go false f g = inr (g tt)

module _ (b k d j : ℕ) (lead : 2 ^ 23 ≤ b + 1) (small : d < 2 ^ 24) where
  above-gap : (b + 1) * 2 ^ k < d * 2 ^ j → (b + 2) * 2 ^ k ≤ d * 2 ^ j
  above-gap h = elim (order k j) [
    | inl g ↦ rw (multiple d j k g) (mul-le-mul_right (2 ^ k) (next (lt_of_mul-lt-mul_right (2 ^ k) (rw (multiple d j k g) at h))))
    | inr g ↦ absurd (no (fewer d j k small g) (mul-le-mul_right (2 ^ k) lead))
  ]
    where
      next : {a : ℕ} → b + 1 < a → b + 2 ≤ a
      next h = omega arith

      no : d * 2 ^ j < 2 ^ 23 * 2 ^ k → 2 ^ 23 * 2 ^ k ≤ (b + 1) * 2 ^ k → ⊥
      no f l = omega arith

  below-gap : d * 2 ^ j < (b + 1) * 2 ^ k → (d * 2 ^ j ≤ b * 2 ^ k) ⊎ (b + 1 ≡ 2 ^ 23)
  below-gap h = elim (order k j) [
    | inl g ↦ inl (rw (multiple d j k g) (mul-le-mul_right (2 ^ k) (last (lt_of_mul-lt-mul_right (2 ^ k) (rw (multiple d j k g) at h)))))
    | inr g ↦ under (fewer d j k small g) (eq-or-lt_of_le lead)
  ]
    where
      last : {a : ℕ} → a < b + 1 → a ≤ b
      last h = omega arith

      some : 2 ^ 23 < b + 1 → d * 2 ^ j < 2 ^ 23 * 2 ^ k → d * 2 ^ j ≤ b * 2 ^ k
      some l f = omega (arith, mul-le-mul_right (2 ^ k) (last l))

      under : d * 2 ^ j < 2 ^ 23 * 2 ^ k → (2 ^ 23 ≡ b + 1) ⊎ (2 ^ 23 < b + 1) → (d * 2 ^ j ≤ b * 2 ^ k) ⊎ (b + 1 ≡ 2 ^ 23)
      under f (inl e) = inr (sym e)
      under f (inr l) = inl (some l f)

-- ---- the parts of a value, over its own significand and exponent

record Digits (m : ℕ) (e : ℤ) : Type 0 where
  digits : ℕ
  power : ℕ
  size : units_of m e ≡ digits * 2 ^ power
  small : digits < 2 ^ 24
  top : power ≤ 253
  zero-only : digits ≡ 0 → m ≡ 0

digits_of : (m : ℕ) (e : ℤ) → T (fits binary32 (fin false m e)) → Digits m e
unfolding parts_of
digits_of m e h = go (finite-parts (fin false m e) false _ _ h refl)
  where
    go : {d k : ℕ} → Finite-parts (fin false m e) false d k → Digits m e
    go {d} {k} p = record {
      digits = d;
      power = k;
      size = (let i = p.is in cc p.size);
      small = p.digits;
      top = p.top;
      zero-only = λ z. let i = p.is in cc (zero-significand p z);
    }

-- a value of a units, over its own significand and exponent
record Counted (x : Float) (a : ℕ) : Type 0 where
  significand : ℕ
  exponent : ℤ
  is : x ≡ fin false significand exponent
  size : units_of significand exponent ≡ a

counted : (x : Float) (a : ℕ) → HasValue x false a (2 ^ 149) → Counted x a
unfolding units_of
counted nan a h = absurd h
counted (inf s) a h = absurd h
counted (fin s m e) a h = record {
  significand = m;
  exponent = e;
  is = ap (λ (t : Bool). fin t m e) h.0;
  size = ap (λ (n : ℕ). n / down e) h.1 ∙ mul-div_cancel a (down_pos e);
}

-- ---- the theorem

holds : {b : Bool} → b ≡ true → T b
holds h = subst T (sym h) tt

module _ (t k : ℕ) (lo : 2 ^ 46 ≤ t) where
  nearest-at : (b : ℕ) → b + 1 ≡ (isqrt (4 * t) + 1) / 2 → Nearest (t * (2 ^ k * 2 ^ k)) ((b + 1) * 2 ^ k)
  nearest-at b h = record {
    above = λ m e f l. let y = digits_of m e (holds f) in rw y.size (above-by b t (2 ^ k) h (pow_pos k) (y.digits * 2 ^ y.power) (above-gap b k y.digits y.power lead y.small (rw y.size at l)));
    below = λ m e f l. let y = digits_of m e (holds f) in rw y.size (under (y.digits * 2 ^ y.power) (rw y.size at l) (below-gap b k y.digits y.power lead y.small (rw y.size at l)));
  }
    where
      lead : 2 ^ 23 ≤ b + 1
      lead = omega (arith, twice-low t lo)

      under : (y : ℕ) → y < (b + 1) * 2 ^ k → (y ≤ b * 2 ^ k) ⊎ (b + 1 ≡ 2 ^ 23) → ((b + 1) * 2 ^ k + y) * ((b + 1) * 2 ^ k + y) < 4 * (t * (2 ^ k * 2 ^ k))
      under y l (inl g) = below_by b t (2 ^ k) h (pow_pos k) y g
      under y l (inr g) = below-least b t (2 ^ k) h (pow_pos k) y g lo l

  nearest-of : (q : ℕ) → q ≡ (isqrt (4 * t) + 1) / 2 → Nearest (t * 4 ^ k) (q * 2 ^ k)
  nearest-of q h = rw (four-pow k) (rw (before q (omega (arith, twice-low t lo))) at (nearest-at (q - 1) (before q (omega (arith, twice-low t lo)) ∙ h)))
    where
      before : (q : ℕ) → 0 < q → q - 1 + 1 ≡ q
      before q h = omega arith

-- where the number under the root is d·2^f, for a d of 24 digits
module _ (m : ℕ) (e : ℤ) (d f : ℕ) (whole : units_of m e * 2 ^ 149 ≡ d * 2 ^ f) (lo : 2 ^ 23 ≤ d) (hi : d < 2 ^ 24) (f-lo : 23 ≤ f) (f-hi : f ≤ 402) (fitting : T (fits binary32 (fin false m e))) where
  q-bounds : (2 ^ 23 ≤ (isqrt (4 * kept d f) + 1) / 2) × ((isqrt (4 * kept d f) + 1) / 2 < 2 ^ 24)
  q-bounds = omega (arith, twice-low (kept d f) (kept_low d f lo hi f-lo), twice-high (kept d f) (kept_high d f lo hi f-lo))

  correct-at : CorrectlyRounded m e (nearest_root (units_of m e * 2 ^ 149))
  correct-at =
      let q = (isqrt (4 * kept d f) + 1) / 2 in
      let k = dropped f in
      let k-le : k ≤ 253 = omega arith in
      let is : nearest_root (units_of m e * 2 ^ 149) ≡ units binary32 false q k = ap nearest_root whole ∙ rounded d f lo hi f-lo in
      let v = counted (units binary32 false q k) (q * 2 ^ k) (units_val binary32 false q k (in-range q k q-bounds.0 q-bounds.1 k-le)) in
      record {
        radicand = is_true _ fitting;
        significand = v.significand;
        exponent = v.exponent;
        finite = is ∙ v.is;
        root = is_true _ (subst (λ (x : Float). T (fits binary32 x)) (sym is) (units-fits q k q-bounds.0 q-bounds.1 k-le));
        nearest = rw (whole, kept_whole d f lo hi f-lo, v.size) (nearest-of (kept d f) k (kept_low d f lo hi f-lo) q refl);
      }

pub sqrt-nearest : (m : ℕ) (e : ℤ) → T (fits binary32 (fin false m e)) → 0 < m → CorrectlyRounded m e (sqrt_of (fin false m e))
sqrt-nearest m e h above =
    let y = digits_of m e h in
    let pos : 0 < y.digits = lt_of_not-le (λ g. absurd (no (y.zero-only (none g)))) in
    let s-le = shift_le y.digits pos y.small in
    rw (at-number false m e no)
    (correct-at m e (y.digits * 2 ^ shift y.digits) (y.power + 149 - shift y.digits)
    (ap (λ (u : ℕ). u * 2 ^ 149) y.size ∙ sym (shifted-whole y.digits pos y.small y.power))
    (shifted-low y.digits pos y.small)
    (shifted-high y.digits pos y.small)
    (omega arith)
    (omega (arith, y.top))
    h)
  where
    no : m ≡ 0 → ⊥
    no z = omega arith

    none : {d : ℕ} → d ≤ 0 → d ≡ 0
    none g = omega arith
