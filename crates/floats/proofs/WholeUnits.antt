-- A value from 0 to 1 times 2 ^ 30 is exact, and its whole part is the definition's T (`whole-units`), which is at most 2 ^ 30 (`units-le`).
use Rattle.std.proofs.Common.{◌≡◌, ℕ, zero, suc, ◌+◌, ◌-◌, ◌*◌, ◌/◌, ◌%◌, ◌^◌, ◌<◌, ◌≤◌, min, Bool, true, false, cond, ◌&&◌, T, eqb, ltb, leb, ℤ, pos, negsuc, sym, ap, ◌∙◌, subst, le_trans, le_of_eq, lt_of_lt_of_le, le_of_suc-le-suc, lt_of_le_of_lt, mul-le-mul_right, mul_assoc, mul_comm, div-lt_iff_lt-mul, lt_of_mul-lt-mul_right, mul-lt-mul_of_pos_right, one-mul, lt_of_not-le, zero-mul, mul-one, mul_right_comm, not-le_of_lt, le_of_mul-le-mul_right, arith, lit≤, ltb→lt, lt→ltb, leb→le, pow_pos, pow-add}
use native.Mathlib.Nat.{div-le_of_le-mul}
use lib.Pow.{pow-lt}
use lib.Ieee.{Float, nan, inf, fin, Format, binary32, prec, emax, low, up, down, round, mul, lt, fits, to_unsigned}
use lib.Ieee.Digits.{back}
use lib.Ieee.Exact.{HasValue, round_exact}
use lib.Ieee.Fits.{and_l, and_r, down_pos}
use lib.Ieee.Nearest.{div_same}
use lib.Ieee.Scale.{overflow}
use Rattle.floats.specs.Angle.{tangent_units}
use Rattle.floats.proofs.UnitInterval.{InUnit, unit-cases}

-- ---- the product

-- what the format says of a value that is not 0: its digits are few, and its exponent is not too low
few-digits : (f : Format) (m : ℕ) (e : ℤ) → T (fits f (fin false (suc m) e)) → (suc m < 2 ^ prec f) × (down e ≤ 2 ^ low f)
unfolding fits
few-digits f m e t =
    let a : Bool = eqb (suc m % 2) 1 in
    let b : Bool = ltb (suc m) (2 ^ prec f) in
    let c : Bool = leb (down e) (2 ^ low f) in
    let d : Bool = ltb (suc m * up e) (2 ^ suc (emax f) * down e) in
    let abc = and_l (a && b && c) d t in
    (ltb→lt (suc m) (2 ^ prec f) (and_r a b (and_l (a && b) c abc)), leb→le (down e) (2 ^ low f) (and_r (a && b) c abc))

-- a / d is at most 1, so 2 ^ k times it is far from an overflow
in-range : (f : Format) (a d k w : ℕ) → 0 < d → a ≤ d → k ≤ emax f → a * 2 ^ k * 2 ^ low f ≡ w * d → w < overflow f
in-range f a d k w D h K e =
    let l : w * d ≤ 2 ^ (k + low f) * d =
    le_trans (le_of_eq (sym e ∙ mul_assoc a (2 ^ k) (2 ^ low f) ∙ ap (λ (x : ℕ). a * x) (sym (pow-add 2 k (low f)))))
    (le_trans (mul-le-mul_right (2 ^ (k + low f)) h) (le_of_eq (mul_comm d (2 ^ (k + low f))))) in
    lt_of_le_of_lt (le_of_mul-le-mul_right l D) (pow-lt (omega arith))

lower : (k l : ℕ) → 2 ^ k ≤ 2 ^ l → k ≤ l
lower k l h = le_of_suc-le-suc (lt_of_not-le (λ (g : suc l ≤ k). not-le_of_lt (pow-lt g) h))

exact : (f : Format) (m : ℕ) (e : ℤ) (k : ℕ) → T (fits f (fin false m e)) → m * up e ≤ down e → k ≤ emax f → HasValue (round f false (m * up e * 2 ^ k) (down e)) false (m * up e * 2 ^ k) (down e)
exact f zero e k t h K =
    round_exact f false (0 * up e * 2 ^ k) (down e) 0 0 (down_pos e) (pow_pos (prec f)) (pow_pos (low f + suc (emax f))) (simp zero-mul)
exact f (suc m) (pos i) k t h K =
    let e : suc m * 2 ^ i * 2 ^ k * 2 ^ low f ≡ suc m * 2 ^ (i + (k + low f)) * 1 = simp (mul-one, pow-add, mul_assoc) in
    round_exact f false (suc m * 2 ^ i * 2 ^ k) 1 (suc m) (i + (k + low f)) (pow_pos 0) (few-digits f m (pos i) t).0
    (in-range f (suc m * 2 ^ i) 1 k (suc m * 2 ^ (i + (k + low f))) (pow_pos 0) h K e) e
exact f (suc m) (negsuc i) k t h K =
    let r = low f - suc i in
    let L : low f ≡ r + suc i = sym (back (low f) (suc i) (lower (suc i) (low f) (few-digits f m (negsuc i) t).1)) in
    let e : suc m * 1 * 2 ^ k * 2 ^ low f ≡ suc m * 2 ^ (k + r) * 2 ^ suc i =
    ap (λ (x : ℕ). suc m * 1 * 2 ^ k * 2 ^ x) L ∙ simp (mul-one, pow-add, mul_assoc) in
    round_exact f false (suc m * 1 * 2 ^ k) (2 ^ suc i) (suc m) (k + r) (pow_pos (suc i)) (few-digits f m (negsuc i) t).0
    (in-range f (suc m * 1) (2 ^ suc i) k (suc m * 2 ^ (k + r)) (pow_pos (suc i)) h K e) e

product : (f : Format) (m : ℕ) (e : ℤ) (k : ℕ) → T (fits f (fin false m e)) → m * up e ≤ down e → k ≤ emax f → HasValue (mul f (fin false m e) (fin false 1 (pos k))) false (m * up e * 2 ^ k) (down e)
unfolding mul
product f m e k t h K =
    subst (λ (x : Float). HasValue x false (m * up e * 2 ^ k) (down e))
    (sym (ap (λ (y : ℕ). round f false (m * up e * y) (down e * 1)) (one-mul (2 ^ k)) ∙ ap (round f false (m * up e * 2 ^ k)) (mul-one (down e))))
    (exact f m e k t h K)

-- ---- its whole part: the cast's two conditions, and the result

above : (x : Float) (a c : ℕ) → HasValue x false a c → T (lt (fin true 1 (pos 0)) x)
unfolding lt
above nan a c v = absurd v
above (inf s) a c v = absurd v
above (fin s m e) a c v =
    let p = down_pos e in
    subst (λ (b : Bool). T (lt (fin true 1 (pos 0)) (fin b m e))) (sym v.0) (lt→ltb 0 (1 * down e + m * up e * 1) (omega arith))

below : (x : Float) (a c w : ℕ) → 0 < c → a < 2 ^ w * c → HasValue x false a c → T (lt x (fin false 1 (pos w)))
unfolding lt
below nan a c w C h v = absurd v
below (inf s) a c w C h v = absurd v
below (fin s m e) a c w C h v =
    let l : m * up e * c < 2 ^ w * down e * c =
    lt_of_le_of_lt (le_of_eq v.1) (lt_of_lt_of_le (mul-lt-mul_of_pos_right h (down_pos e)) (le_of_eq (mul_right_comm (2 ^ w) c (down e)))) in
    subst (λ (b : Bool). T (lt (fin b m e) (fin false 1 (pos w)))) (sym v.0)
    (lt→ltb (m * up e * 1) (1 * 2 ^ w * down e) (rw (mul-one, one-mul) (lt_of_mul-lt-mul_right c l)))

whole_part : (x : Float) (a c w : ℕ) → 0 < c → a < 2 ^ w * c → HasValue x false a c → to_unsigned w x ≡ a / c
unfolding to_unsigned
whole_part nan a c w C h v = absurd v
whole_part (inf s) a c w C h v = absurd v
whole_part (fin s m e) a c w C h v =
    ap (λ (b : Bool). cond b 0 (min (m * up e / down e) (2 ^ w - 1))) v.0
    ∙ ap (λ (q : ℕ). min q (2 ^ w - 1)) (div_same (m * up e) (down e) a c (down_pos e) C v.1)
    ∙ uncapped (a / c) (2 ^ w) ((div-lt_iff_lt-mul C).1 h)
  where
    uncapped : (q r : ℕ) → q < r → min q (r - 1) ≡ q
    uncapped q r l = omega arith

-- ---- t * 2 ^ 30, for a t from 0 to 1

-- the cast's two conditions, and its result
abbrev pub Casts : Float → Type 0
Casts t = T (lt (fin true 1 (pos 0)) (mul binary32 t (fin false 1 (pos 30)))) × T (lt (mul binary32 t (fin false 1 (pos 30))) (fin false 1 (pos 64))) × (to_unsigned 64 (mul binary32 t (fin false 1 (pos 30))) ≡ tangent_units t)

pub whole-units : (t : Float) → InUnit t → T (fits binary32 t) → Casts t
unfolding tangent_units
whole-units =
    unit-cases (λ (t : Float). T (fits binary32 t) → Casts t)
    (λ (m : ℕ) (e : ℤ) h t.
    let v = product binary32 m e 30 t h (lit≤ tt) in
    let p = down_pos e in
    let l : m * up e * 2 ^ 30 < 2 ^ 64 * down e = omega arith in (
      above (mul binary32 (fin false m e) (fin false 1 (pos 30))) (m * up e * 2 ^ 30) (down e) v,
      below (mul binary32 (fin false m e) (fin false 1 (pos 30))) (m * up e * 2 ^ 30) (down e) 64 p l v,
      whole_part (mul binary32 (fin false m e) (fin false 1 (pos 30))) (m * up e * 2 ^ 30) (down e) 64 p l v,
    ))

pub units-le : (t : Float) → InUnit t → tangent_units t ≤ 2 ^ 30
unfolding tangent_units
units-le = unit-cases (λ (t : Float). tangent_units t ≤ 2 ^ 30) (λ (m : ℕ) (e : ℤ) h. div-le_of_le-mul (down e) (mul-le-mul_right (2 ^ 30) h))
