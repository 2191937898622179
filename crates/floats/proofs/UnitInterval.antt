-- The values from +0 to 1 (`InUnit`). The ratio of two finite magnitudes is one (`ratio-in-unit`), since rounding keeps the order.
use Rattle.std.proofs.Common.{◌≡◌, ℕ, zero, suc, ◌*◌, ◌<◌, ◌≤◌, Bool, true, false, cond, not, ◌&&◌, ◌||◌, T, eqb, ltb, ◌⊎◌, ℤ, pos, refl, subst, inl, inr, le_of_eq, le_refl, le_of_lt, eq-zero-or-pos, mul-pos, zero-mul, arith, eqb→eq, ltb→lt, nltb→le, pow_pos, eq-eqb}
use lib.Dec.{eqb-suc-zero}
use lib.Ieee.{Float, nan, inf, fin, binary32, up, down, round, div, lt, le, eq}
use lib.Ieee.Fits.{up_pos, down_pos}
use lib.Ieee.Order.{round_mono}
use Rattle.floats.specs.Operators.{◌⊘◌}
use Rattle.floats.specs.Scalar.{min_of, max_of, is_finite}
use Rattle.floats.specs.Sign.{sign_bit, abs_of}
use Rattle.floats.specs.Angle.{ratio}
use Rattle.floats.proofs.Values.{round-sign}

abbrev pub InUnit : Float → Type 0
InUnit t = (sign_bit t ≡ false) × T (le t (fin false 1 (pos 0)))

-- ---- the tests, as facts about numbers

tested : (a b : ℕ) → T (ltb a b || (eqb a b && true)) → a ≤ b
tested a b = go (ltb a b) (eqb a b) (ltb→lt a b) (eqb→eq a b)
  where
    go : (p q : Bool) → (T p → a < b) → (T q → a ≡ b) → T (p || (q && true)) → a ≤ b
    go true q l e t = le_of_lt (l tt)
    go false true l e t = le_of_eq (e tt)
    go false false l e t = absurd t

untested : (a b : ℕ) → T (not (ltb a b || (eqb a b && true))) → b ≤ a
untested a b = go (ltb a b) (nltb→le a b)
  where
    go : (p : Bool) → (T (not p) → b ≤ a) → T (not (p || (eqb a b && true))) → b ≤ a
    go true l t = absurd t
    go false l t = l tt

pub le→num : (m n : ℕ) (e d : ℤ) → T (le (fin false m e) (fin false n d)) → m * up e * down d ≤ n * up d * down e
unfolding le lt eq
le→num m n e d t = tested (m * up e * down d) (n * up d * down e) t

nle→num : (m n : ℕ) (e d : ℤ) → T (not (le (fin false m e) (fin false n d))) → n * up d * down e ≤ m * up e * down d
unfolding le lt eq
nle→num m n e d t = untested (m * up e * down d) (n * up d * down e) t

-- a value of the interval is a fraction of which the numerator is at most the denominator
pub unit-cases : (P : Float → Type 0) → ((m : ℕ) (e : ℤ) → m * up e ≤ down e → P (fin false m e)) → (t : Float) → InUnit t → P t
unfolding sign_bit
unit-cases P f nan u = absurd (unfold le lt eq in u.1)
unit-cases P f (inf true) u = absurd (subst T u.0 tt)
unit-cases P f (inf false) u = absurd (unfold le lt eq in u.1)
unit-cases P f (fin true m e) u = absurd (subst T u.0 tt)
unit-cases P f (fin false m e) u = let h = le→num m 1 e (pos 0) u.1 in f m e (omega arith)

-- ---- the ratio

one-is : round binary32 false 1 1 ≡ fin false 1 (pos 0)
unfolding round
one-is = refl

zero-in-unit : InUnit (fin false 0 (pos 0))
unfolding sign_bit le lt eq
zero-in-unit = (refl, tt)

-- a fraction up to 1, rounded
rounded : (a b : ℕ) → 0 < b → a ≤ b → InUnit (round binary32 false a b)
rounded a b B h = (
  round-sign binary32 false a b,
  subst (λ (x : Float). T (le (round binary32 false a b) x)) one-is (round_mono binary32 a b 1 1 B (pow_pos 0) (omega arith)),
)

over : (m n : ℕ) (e d : ℤ) → 0 < n → m * up e * down d ≤ n * up d * down e → InUnit (fin false m e ⊘ fin false n d)
unfolding div
over m zero e d p h = absurd (omega arith)
over m (suc n) e d p h = simp eqb-suc-zero (rounded (m * up e * down d) (suc n * up d * down e) (mul-pos (mul-pos p (up_pos d)) (down_pos e)) h)

-- a magnitude is zero where `==` with 0 says so
zero_test : (m : ℕ) (e : ℤ) → m ≡ 0 → eq (fin false m e) (fin false 0 (pos 0)) ≡ true
unfolding eq
zero_test m e z = simp (eq-eqb (m * up e * 1) (0 * down e) (rw z (simp zero-mul)))

not-both : (m n : ℕ) (e d : ℤ) → (eq (fin false m e) (fin false 0 (pos 0)) && eq (fin false n d) (fin false 0 (pos 0))) ≡ false → m ≡ 0 → n ≡ 0 → ⊥
not-both m n e d t p q = subst T (simp (zero_test m e p, zero_test n d q) at t) tt

-- so the larger of the two is not
larger-pos : (m n : ℕ) (e d : ℤ) → (m ≡ 0 → n ≡ 0 → ⊥) → m * up e * down d ≤ n * up d * down e → 0 < n
larger-pos m n e d f h = elim (eq-zero-or-pos n) [ inl z ↦ absurd (f (none z (eq-zero-or-pos m)) z) | inr p ↦ p ]
  where
    none : n ≡ 0 → (m ≡ 0) ⊎ (0 < m) → m ≡ 0
    none z (inl y) = y
    none z (inr p) =
        let a : 0 < m * up e * down d = mul-pos (mul-pos p (up_pos e)) (down_pos d) in
        let b : n * up d * down e ≡ 0 = rw z (simp zero-mul) in
        absurd (omega arith)

two-ratio : (m n : ℕ) (e d : ℤ) → InUnit (ratio (fin false m e) (fin false n d))
unfolding ratio min_of max_of
two-ratio m n e d =
    let a = fin false m e in
    let b = fin false n d in
    let z = fin false 0 (pos 0) in
    go (eq a z && eq b z) (le a b) (le b a) (not-both m n e d) (le→num m n e d) (nle→num m n e d) (le→num n m d e) (nle→num n m d e)
  where
    go : (p q r : Bool) → (p ≡ false → m ≡ 0 → n ≡ 0 → ⊥)
        → (T q → m * up e * down d ≤ n * up d * down e) → (T (not q) → n * up d * down e ≤ m * up e * down d)
        → (T r → n * up d * down e ≤ m * up e * down d) → (T (not r) → m * up e * down d ≤ n * up d * down e)
        → InUnit (cond p (fin false 0 (pos 0)) (cond q (fin false m e) (fin false n d) ⊘ cond r (fin false m e) (fin false n d)))
    go true q r f h k h' k' = zero-in-unit
    go false true true f h k h' k' = over m m e e (larger-pos n m d e (λ v w. f refl w v) (h' tt)) (le_refl (m * up e * down e))
    go false true false f h k h' k' = over m n e d (larger-pos m n e d (f refl) (h tt)) (h tt)
    go false false true f h k h' k' = over n m d e (larger-pos n m d e (λ v w. f refl w v) (h' tt)) (h' tt)
    go false false false f h k h' k' = over n n d d (larger-pos m n e d (f refl) (k' tt)) (le_refl (n * up d * down d))

pub ratio-in-unit : (x y : Float) → T (is_finite x) → T (is_finite y) → InUnit (ratio (abs_of x) (abs_of y))
unfolding abs_of is_finite
ratio-in-unit nan y p q = absurd p
ratio-in-unit (inf s) y p q = absurd p
ratio-in-unit (fin s m e) nan p q = absurd q
ratio-in-unit (fin s m e) (inf t) p q = absurd q
ratio-in-unit (fin s m e) (fin t n d) p q = two-ratio m n e d
