-- The parts of a finite binary32 number. Its size in units of 2 ^ -149 is whole: nothing is cut off (`units-exact`). It is exactly its leading digits times a power of two,
-- the digits are below 2 ^ 24, the power is at most 253, and above 0 only where the leading digit is the 24th (`finite-parts`).
-- What the bits say is what the parts are (`parts-infinite`, `parts_low`, `parts-normal`). Assumes nothing.
use Rattle.std.proofs.Common.{◌≡◌, ℕ, zero, suc, ◌+◌, ◌-◌, ◌*◌, ◌/◌, ◌%◌, ◌^◌, ◌<◌, ◌≤◌, Bool, true, false, cond, not, ◌&&◌, T, eqb, ltb, leb, ◌⊎◌, ℤ, pos, negsuc, sym, refl, ap, ◌∙◌, subst, inl, inr, le_trans, le_of_eq, lt_of_lt_of_le, le_of_suc-le-suc, add_assoc, lt_irrefl, mul-le-mul_right, zero-lt-suc, mul_assoc, eq-zero-or-pos, lt_of_mul-lt-mul_right, mul-lt-mul_of_pos_right, mul-pos, one-mul, lt_of_not-le, zero-mul, mul-one, mul_right_comm, le_of_mul-le-mul_right, mul-div_cancel, arith, lit<, le→leb, eqb→eq, ltb→lt, leb→le, pow_pos, pow-add, shl_lt}
use native.Mathlib.Nat.{zero-div}
use lib.Arith.{lt→nleb}
use lib.Ieee.Bits.{is_true, is_false}
use lib.Pow.{pow-lt}
use lib.Ieee.{Float, nan, inf, fin, binary32, up, down, size, fits, is_nan, to_bits}
use lib.Ieee.Digits.{back, size-le, size_reaches}
use lib.Ieee.Fits.{kept-lt, up_pos, down_pos, and_l, and_r}
use Rattle.floats.specs.Bits.{units_of, parts_of}
use Rattle.floats.specs.declared.bits.Parts.TheVariants.{Infinite, Finite}

pub differ : ◌≡◌ {A = ℕ} 0 1 → ⊥
differ z = omega arith

-- ---- what it takes to fit

-- A finite number of binary32: its significand is below 2 ^ 24, no digit of it is smaller than the smallest value, and it is below 2 ^ 128.
record Fitting (m : ℕ) (e : ℤ) : Type 0 where
  few : m < 2 ^ 24
  fine : down e ≤ 2 ^ 149
  small : m * up e < 2 ^ 128 * down e

zero-few : (u d : ℕ) → u * d ≡ 1 → 0 < u → d ≤ 1
zero-few u d e h = le_trans (le_of_eq (sym (one-mul d))) (le_trans (mul-le-mul_right d h) (le_of_eq e))

fitting : (s : Bool) (m : ℕ) (e : ℤ) → T (fits binary32 (fin s m e)) → Fitting m e
unfolding fits
fitting s zero e h = record {
  few = lit< tt;
  fine = le_trans (zero-few (up e) (down e) (eqb→eq (up e * down e) 1 h) (up_pos e)) (pow_pos 149);
  small = subst (λ (x : ℕ). x < 2 ^ 128 * down e) (sym (zero-mul (up e))) (mul-pos (pow_pos 128) (down_pos e));
}
fitting s (suc m) e h =
    let A = eqb (suc m % 2) 1 in
    let B = ltb (suc m) (2 ^ 24) in
    let C = leb (down e) (2 ^ 149) in
    let D = ltb (suc m * up e) (2 ^ 128 * down e) in
    record {
      few = ltb→lt (suc m) (2 ^ 24) (and_r A B (and_l (A && B) C (and_l (A && B && C) D h)));
      fine = leb→le (down e) (2 ^ 149) (and_r (A && B) C (and_l (A && B && C) D h));
      small = ltb→lt (suc m * up e) (2 ^ 128 * down e) (and_r (A && B && C) D h);
    }

-- ---- the size in units

pow_le_back : (a l : ℕ) → 2 ^ a ≤ 2 ^ l → a ≤ l
pow_le_back a l h = le_of_suc-le-suc (lt_of_not-le (λ (g : suc l ≤ a). lt_irrefl (2 ^ l) (lt_of_lt_of_le (pow-lt g) h)))

-- 2 ^ e is 2 ^ j units for a j
place : (l : ℕ) (e : ℤ) → down e ≤ 2 ^ l → (j : ℕ) × (up e * 2 ^ l ≡ 2 ^ j * down e)
place l (pos a) h = (a + l, sym (pow-add 2 a l) ∙ sym (mul-one (2 ^ (a + l))))
place l (negsuc a) h =
    let le : suc a ≤ l = pow_le_back (suc a) l h in
    (l - suc a, one-mul (2 ^ l) ∙ ap (λ (x : ℕ). 2 ^ x) (sym (back l (suc a) le)) ∙ pow-add 2 (l - suc a) (suc a))

module _ (m : ℕ) (e : ℤ) (f : Fitting m e) where
  shift : ℕ
  shift = (place 149 e f.fine).0

  total : m * up e * 2 ^ 149 ≡ m * 2 ^ shift * down e
  unfolding shift
  total = mul_assoc m (up e) (2 ^ 149) ∙ ap (λ (x : ℕ). m * x) (place 149 e f.fine).1 ∙ sym (mul_assoc m (2 ^ shift) (down e))

  units-are : units_of m e ≡ m * 2 ^ shift
  unfolding units_of
  units-are = ap (λ (x : ℕ). x / down e) total ∙ mul-div_cancel (m * 2 ^ shift) (down_pos e)

  exact-of : units_of m e * down e ≡ m * up e * 2 ^ 149
  exact-of = ap (λ (x : ℕ). x * down e) units-are ∙ sym total

  power : ℕ
  power = size (units_of m e) - 24

  lead : ℕ
  lead = units_of m e / 2 ^ power

  power_le : power ≤ shift
  unfolding power
  power_le = spare (size (units_of m e)) shift (size-le (units_of m e) (24 + shift) (subst (λ (n : ℕ). n < 2 ^ (24 + shift)) (sym units-are) (shl_lt 24 shift f.few)))
    where
      spare : (z j : ℕ) → z ≤ 24 + j → z - 24 ≤ j
      spare z j h = omega arith

  whole : lead * 2 ^ power ≡ units_of m e
  unfolding lead
  whole = ap (λ (x : ℕ). x / 2 ^ power * 2 ^ power) cut ∙ ap (λ (x : ℕ). x * 2 ^ power) (mul-div_cancel (m * 2 ^ (shift - power)) (pow_pos power)) ∙ sym cut
    where
      cut : units_of m e ≡ m * 2 ^ (shift - power) * 2 ^ power
      cut =
          units-are
          ∙ ap (λ (j : ℕ). m * 2 ^ j) (sym (back shift power power_le))
          ∙ ap (λ (x : ℕ). m * x) (pow-add 2 (shift - power) power)
          ∙ sym (mul_assoc m (2 ^ (shift - power)) (2 ^ power))

  units_lt : units_of m e < 2 ^ 277
  units_lt =
      lt_of_mul-lt-mul_right (down e)
      (subst (λ (x : ℕ). x < 2 ^ 277 * down e) (sym exact-of)
      (subst (λ (x : ℕ). m * up e * 2 ^ 149 < x) (mul_right_comm (2 ^ 128) (down e) (2 ^ 149)) (mul-lt-mul_of_pos_right f.small (pow_pos 149))))

  power-top : power ≤ 253
  unfolding power
  power-top = room (size (units_of m e)) (size-le (units_of m e) 277 units_lt)
    where
      room : (z : ℕ) → z ≤ 277 → z - 24 ≤ 253
      room z h = omega arith

  lead-lt : lead < 2 ^ 24
  unfolding lead power
  lead-lt = kept-lt 24 (units_of m e)

  lead-normal : 0 < power → 2 ^ 23 ≤ lead
  lead-normal h =
      le_of_mul-le-mul_right
      (subst (λ (x : ℕ). 2 ^ 23 * 2 ^ power ≤ x) (sym whole)
      (subst (λ (x : ℕ). x ≤ units_of m e) (pow-add 2 23 power) (size_reaches (units_of m e) (23 + power) (unfold power in under (size (units_of m e)) h))))
      (pow_pos power)
    where
      under : (z : ℕ) → 0 < z - 24 → 23 + (z - 24) < z
      under z h = omega arith

pub units-exact : (s : Bool) (m : ℕ) (e : ℤ) → T (fits binary32 (fin s m e)) → units_of m e * down e ≡ m * up e * 2 ^ 149
units-exact s m e h = exact-of m e (fitting s m e h)

-- the size is 0 exactly where the significand is
pub units-zero : (e : ℤ) → units_of 0 e ≡ 0
unfolding units_of
units-zero e = ap (λ (x : ℕ). x * 2 ^ 149 / down e) (zero-mul (up e)) ∙ zero-div (down e)

pub zero-units : (s : Bool) (m : ℕ) (e : ℤ) → T (fits binary32 (fin s m e)) → units_of m e ≡ 0 → m ≡ 0
zero-units s zero e h z = refl
zero-units s (suc m) e h z =
    absurd (lt_irrefl 0
    (subst (λ (x : ℕ). 0 < x) (sym (units-exact s (suc m) e h) ∙ ap (λ (x : ℕ). x * down e) z ∙ zero-mul (down e)) (mul-pos (mul-pos (zero-lt-suc m) (up_pos e)) (pow_pos 149))))

-- ---- what a caller knows of a number whose parts are finite

-- x is ± d · 2 ^ k units: its significand and exponent, and the bounds of d and k
pub record Finite-parts (x : Float) (s : Bool) (d k : ℕ) : Type 0 where
  pub significand : ℕ
  pub exponent : ℤ
  pub is : x ≡ fin s significand exponent
  pub size : units_of significand exponent ≡ d * 2 ^ k
  pub exact : units_of significand exponent * down exponent ≡ significand * up exponent * 2 ^ 149
  pub digits : d < 2 ^ 24
  pub top : k ≤ 253
  pub normal : 0 < k → 2 ^ 23 ≤ d

parts_are : (s : Bool) (m : ℕ) (e : ℤ) (f : Fitting m e) → parts_of (fin s m e) ≡ Finite s (lead m e f) (power m e f)
unfolding parts_of lead power
parts_are s m e f = refl

of-fitting : (s : Bool) (m : ℕ) (e : ℤ) (f : Fitting m e) → Finite-parts (fin s m e) s (lead m e f) (power m e f)
of-fitting s m e f = record {
  significand = m;
  exponent = e;
  is = refl;
  size = sym (whole m e f);
  exact = exact-of m e f;
  digits = lead-lt m e f;
  top = power-top m e f;
  normal = lead-normal m e f;
}

pub finite-parts : (x : Float) (s : Bool) (d k : ℕ) → T (fits binary32 x) → parts_of x ≡ Finite s d k → Finite-parts x s d k
unfolding parts_of
finite-parts nan s d k h p = absurd (let z : ◌≡◌ {A = ℕ} 0 1 = cc in differ z)
finite-parts (inf t) s d k h p = absurd (let z : ◌≡◌ {A = ℕ} 0 1 = cc in differ z)
finite-parts (fin t m e) s d k h p =
    let f = fitting t m e h in
    let q : Finite t (lead m e f) (power m e f) ≡ Finite s d k = sym (parts_are t m e f) ∙ p in
    let es : t ≡ s = cc in
    let ed : lead m e f ≡ d = cc in
    let ek : power m e f ≡ k = cc in
    subst (λ (a : Bool). Finite-parts (fin t m e) a d k) es
    (subst (λ (a : ℕ). Finite-parts (fin t m e) t a k) ed
    (subst (λ (a : ℕ). Finite-parts (fin t m e) t (lead m e f) a) ek (of-fitting t m e f)))

-- the digits are 0 exactly where the significand is
pub zero-significand : {x : Float} {s : Bool} {d k : ℕ} (p : Finite-parts x s d k) → d ≡ 0 → p.significand ≡ 0
zero-significand {x} {s} {d} {k} p z = nothing p.significand p.exponent (sym p.exact ∙ ap (λ (n : ℕ). n * down p.exponent) (p.size ∙ ap (λ (a : ℕ). a * 2 ^ k) z ∙ zero-mul (2 ^ k)) ∙ zero-mul (down p.exponent))
  where
    nothing : (m : ℕ) (e : ℤ) → m * up e * 2 ^ 149 ≡ 0 → m ≡ 0
    nothing zero e h = refl
    nothing (suc m) e h = absurd (lt_irrefl 0 (subst (λ (x : ℕ). 0 < x) h (mul-pos (mul-pos (zero-lt-suc m) (up_pos e)) (pow_pos 149))))

pub zero-digits : {x : Float} {s : Bool} {d k : ℕ} (p : Finite-parts x s d k) → p.significand ≡ 0 → d ≡ 0
zero-digits {x} {s} {d} {k} p z = nothing d (sym p.size ∙ ap (λ (m : ℕ). units_of m p.exponent) z ∙ units-zero p.exponent)
  where
    nothing : (a : ℕ) → a * 2 ^ k ≡ 0 → a ≡ 0
    nothing zero h = refl
    nothing (suc a) h = absurd (lt_irrefl 0 (subst (λ (x : ℕ). 0 < x) h (mul-pos (zero-lt-suc a) (pow_pos k))))

-- ---- what the bits say

sign-bit : (s : Bool) (r : ℕ) → r < 2147483648 → leb 2147483648 (cond s 2147483648 0 + r) ≡ s
sign-bit true r h = is_true (leb 2147483648 (2147483648 + r)) (le→leb 2147483648 (2147483648 + r) (omega arith))
sign-bit false r h = is_false (leb 2147483648 (0 + r)) (lt→nleb 2147483648 (0 + r) (omega arith))

unsigned : (s : Bool) (r : ℕ) → r < 2147483648 → (cond s 2147483648 0 + r) % 2147483648 ≡ r
unsigned true r h = omega arith
unsigned false r h = omega arith

-- a finite number's bits: those of its sign, then k and d
bits-finite : (s : Bool) (m : ℕ) (e : ℤ) (f : Fitting m e) → to_bits binary32 (fin s m e) ≡ cond s 2147483648 0 + (power m e f * 8388608 + lead m e f)
unfolding to_bits units_of lead power
bits-finite s m e f = add_assoc (cond s 2147483648 0) (power m e f * 8388608) (lead m e f)

bits-infinite : (s : Bool) → to_bits binary32 (inf s) ≡ cond s 2147483648 0 + 2139095040
unfolding to_bits
bits-infinite s = refl

-- the fields of a finite number
rest_lt : (k d : ℕ) → d < 2 ^ 24 → k ≤ 253 → k * 8388608 + d < 2147483648
rest_lt k d D K = omega arith

not-ones : (k d : ℕ) → d < 2 ^ 24 → k ≤ 253 → (k * 8388608 + d) / 8388608 ≡ 255 → ⊥
not-ones k d D K h = omega arith

low_field : (k d : ℕ) → (k * 8388608 + d) / 8388608 ≡ 0 → ((k * 8388608 + d) % 8388608 ≡ d) × (0 ≡ k)
low_field k d h = (omega arith, omega arith)

normal-field : (k d : ℕ) → d < 2 ^ 24 → (k ≡ 0) ⊎ (2 ^ 23 ≤ d) → ((k * 8388608 + d) / 8388608 ≡ 0 → ⊥)
    → ((k * 8388608 + d) % 8388608 + 8388608 ≡ d) × ((k * 8388608 + d) / 8388608 - 1 ≡ k)
normal-field k d D (inl z) h = (omega arith, omega arith)
normal-field k d D (inr n) h = (omega arith, omega arith)

module _ (s : Bool) (m : ℕ) (e : ℤ) (f : Fitting m e) where
  rest : ℕ
  rest = power m e f * 8388608 + lead m e f

  rest-small : rest < 2147483648
  unfolding rest
  rest-small = rest_lt (power m e f) (lead m e f) (lead-lt m e f) (power-top m e f)

  sign_of : leb 2147483648 (to_bits binary32 (fin s m e)) ≡ s
  unfolding rest
  sign_of = ap (λ (b : ℕ). leb 2147483648 b) (bits-finite s m e f) ∙ sign-bit s rest rest-small

  rest_of : to_bits binary32 (fin s m e) % 2147483648 ≡ rest
  unfolding rest
  rest_of = ap (λ (b : ℕ). b % 2147483648) (bits-finite s m e f) ∙ unsigned s rest rest-small

  finite-not-ones : to_bits binary32 (fin s m e) % 2147483648 / 8388608 ≡ 255 → ⊥
  unfolding rest
  finite-not-ones h = not-ones (power m e f) (lead m e f) (lead-lt m e f) (power-top m e f) (ap (λ (r : ℕ). r / 8388608) (sym rest_of) ∙ h)

  finite-low : to_bits binary32 (fin s m e) % 2147483648 / 8388608 ≡ 0
      → Finite (leb 2147483648 (to_bits binary32 (fin s m e))) (to_bits binary32 (fin s m e) % 2147483648 % 8388608) 0 ≡ parts_of (fin s m e)
  unfolding rest
  finite-low h =
      let z = low_field (power m e f) (lead m e f) (ap (λ (r : ℕ). r / 8388608) (sym rest_of) ∙ h) in
      let d : to_bits binary32 (fin s m e) % 2147483648 % 8388608 ≡ lead m e f = ap (λ (r : ℕ). r % 8388608) rest_of ∙ z.0 in
      ap (λ (a : Bool). Finite a (to_bits binary32 (fin s m e) % 2147483648 % 8388608) 0) sign_of
      ∙ ap (λ (a : ℕ). Finite s a 0) d
      ∙ ap (λ (a : ℕ). Finite s (lead m e f) a) z.1
      ∙ sym (parts_are s m e f)

  finite-normal : (to_bits binary32 (fin s m e) % 2147483648 / 8388608 ≡ 0 → ⊥)
      → Finite (leb 2147483648 (to_bits binary32 (fin s m e))) (to_bits binary32 (fin s m e) % 2147483648 % 8388608 + 8388608) (to_bits binary32 (fin s m e) % 2147483648 / 8388608 - 1) ≡ parts_of (fin s m e)
  unfolding rest
  finite-normal h =
      let z = normal-field (power m e f) (lead m e f) (lead-lt m e f) either (λ g. h (ap (λ (r : ℕ). r / 8388608) rest_of ∙ g)) in
      let d : to_bits binary32 (fin s m e) % 2147483648 % 8388608 + 8388608 ≡ lead m e f = ap (λ (r : ℕ). r % 8388608 + 8388608) rest_of ∙ z.0 in
      let k : to_bits binary32 (fin s m e) % 2147483648 / 8388608 - 1 ≡ power m e f = ap (λ (r : ℕ). r / 8388608 - 1) rest_of ∙ z.1 in
      ap (λ (a : Bool). Finite a (to_bits binary32 (fin s m e) % 2147483648 % 8388608 + 8388608) (to_bits binary32 (fin s m e) % 2147483648 / 8388608 - 1)) sign_of
      ∙ ap (λ (a : ℕ). Finite s a (to_bits binary32 (fin s m e) % 2147483648 / 8388608 - 1)) d
      ∙ ap (λ (a : ℕ). Finite s (lead m e f) a) k
      ∙ sym (parts_are s m e f)
    where
      either : (power m e f ≡ 0) ⊎ (2 ^ 23 ≤ lead m e f)
      either = elim (eq-zero-or-pos (power m e f)) [ inl z ↦ inl z | inr p ↦ inr (lead-normal m e f p) ]

infinite-field : (s : Bool) → to_bits binary32 (inf s) % 2147483648 / 8388608 ≡ 255
infinite-field s = ap (λ (b : ℕ). b % 2147483648 / 8388608) (bits-infinite s) ∙ ap (λ (r : ℕ). r / 8388608) (unsigned s 2139095040 (lit< tt))

infinite-sign : (s : Bool) → leb 2147483648 (to_bits binary32 (inf s)) ≡ s
infinite-sign s = ap (λ (b : ℕ). leb 2147483648 b) (bits-infinite s) ∙ sign-bit s 2139095040 (lit< tt)

two_fields : (x : ℕ) → x ≡ 255 → x ≡ 0 → ⊥
two_fields x h k = omega arith

-- ---- the three answers for a number that is no NaN, by the exponent's field

pub parts-infinite : (x : Float) → T (fits binary32 x) → T (not (is_nan x)) → to_bits binary32 x % 2147483648 / 8388608 ≡ 255 → Infinite (leb 2147483648 (to_bits binary32 x)) ≡ parts_of x
unfolding is_nan parts_of
parts-infinite nan h n z = absurd n
parts-infinite (inf s) h n z = ap Infinite (infinite-sign s)
parts-infinite (fin s m e) h n z = absurd (finite-not-ones s m e (fitting s m e h) z)

pub parts_low : (x : Float) → T (fits binary32 x) → T (not (is_nan x)) → to_bits binary32 x % 2147483648 / 8388608 ≡ 0
    → Finite (leb 2147483648 (to_bits binary32 x)) (to_bits binary32 x % 2147483648 % 8388608) 0 ≡ parts_of x
unfolding is_nan
parts_low nan h n z = absurd n
parts_low (inf s) h n z = absurd (two_fields (to_bits binary32 (inf s) % 2147483648 / 8388608) (infinite-field s) z)
parts_low (fin s m e) h n z = finite-low s m e (fitting s m e h) z

pub parts-normal : (x : Float) → T (fits binary32 x) → T (not (is_nan x)) → (to_bits binary32 x % 2147483648 / 8388608 ≡ 255 → ⊥) → (to_bits binary32 x % 2147483648 / 8388608 ≡ 0 → ⊥)
    → Finite (leb 2147483648 (to_bits binary32 x)) (to_bits binary32 x % 2147483648 % 8388608 + 8388608) (to_bits binary32 x % 2147483648 / 8388608 - 1) ≡ parts_of x
unfolding is_nan
parts-normal nan h n a z = absurd n
parts-normal (inf s) h n a z = absurd (a (infinite-field s))
parts-normal (fin s m e) h n a z = finite-normal s m e (fitting s m e h) z
