-- w·10^a / 10^b, rounded: by the program's steps, where the fraction is cancelled, where it is zero, below half the smallest value, or past the largest, and with a sign.
use mathlib.Core.Path.{◌≡◌, refl, sym, ap, ◌∙◌, subst}
use mathlib.Core.Logic.{◌⊎◌, inl, inr}
use mathlib.Core.Bool.{Bool, true, false, cond}
use Prim.Native.Nat.{ℕ, zero, suc, ◌+◌, ◌-◌, ◌*◌, ◌/◌, ◌^◌, ◌≤◌, ◌<◌}
use native.Mathlib.Nat.{le_trans, le_of_eq, le_of_lt, lt_of_lt_of_le, lt_of_le_of_lt, mul-one, one-mul, mul_assoc, mul-le-mul, mul-le-mul_right, one-le-pow, pow-le-pow_right, zero-mul, div-one, div-eq_of_lt}
use native.Mathlib.Omega.{arith}
use lib.Dec.{ltb, lit<, lit≤}
use lib.IntN.{pos}
use lib.Pow.{pow-add, pow_mono, shl_lt}
use lib.Ieee.{inf, fin, binary32, size, units, round, odd, neg}
use lib.Ieee.Digits.{size-lt}
use lib.Ieee.Fits.{round_is}
use lib.Ieee.Nearest.{closest}
use lib.Ieee.Scale.{round_same}
use Rattle.decimals.specs.Rounding.{decimal_of, units_rounded}
use Rattle.floats.proofs.Pattern.{pow_lt_back}
use Rattle.decimals.proofs.RoundingLaws.{nearest-below, kept-reaches, full-digits}
use Rattle.decimals.proofs.PatternLaws.{units-over}

units-round : (num den : ℕ) → units_rounded (num * 2 ^ 149) den ≡ round binary32 false num den
unfolding units_rounded
units-round num den = sym (round_is binary32 false num den)

pub down_is : (w n v d : ℕ) → v ≡ w * 2 ^ 149 → d ≡ 1 * 10 ^ n → units_rounded v d ≡ decimal_of false w 0 n
unfolding decimal_of
down_is w n v d e f =
    ap (λ (x : ℕ). units_rounded x d) e
    ∙ ap (units_rounded (w * 2 ^ 149)) (f ∙ one-mul (10 ^ n))
    ∙ units-round w (10 ^ n)
    ∙ ap (λ (x : ℕ). round binary32 false x (10 ^ n)) (sym (mul-one w))

pub up_is : (w n v d : ℕ) → v ≡ w * 10 ^ n * 2 ^ 149 → d ≡ 1 → units_rounded v d ≡ decimal_of false w n 0
unfolding decimal_of
up_is w n v d e f = ap (λ (x : ℕ). units_rounded x d) e ∙ ap (units_rounded (w * 10 ^ n * 2 ^ 149)) f ∙ units-round (w * 10 ^ n) 1

-- ---- room for the program's numbers
module _ (w : ℕ) (fits : w < 2 ^ 64) where
  pub word_room : w * 2 ^ 149 < 2 ^ 400
  word_room = lt_of_lt_of_le (shl_lt 64 149 fits) (pow_mono {i = 213} {j = 400} (omega arith))

  tens : (n : ℕ) → n ≤ 38 → w * 10 ^ n ≤ 2 ^ 64 * 10 ^ 38
  tens n h = mul-le-mul (le_of_lt fits) (pow-le-pow_right (omega arith) h)

  pub tens-room : (n : ℕ) → n ≤ 38 → w * 10 ^ n < 2 ^ 448
  tens-room n h = lt_of_le_of_lt (tens n h) (lit< tt)

  pub tens-shift-room : (n : ℕ) → n ≤ 38 → w * 10 ^ n * 2 ^ 149 < 2 ^ 400
  tens-shift-room n h = lt_of_le_of_lt (mul-le-mul_right (2 ^ 149) (tens n h)) (lit< tt)

pub to-448 : (x : ℕ) → x < 2 ^ 400 → x < 2 ^ 448
to-448 x h = lt_of_lt_of_le h (pow_mono {i = 400} {j = 448} (omega arith))

ten-le : (n : ℕ) → n ≤ 64 → 10 ^ n ≤ 10 ^ 64
ten-le n h = pow-le-pow_right (omega arith) h

pub ten-room : (n : ℕ) → n ≤ 64 → 1 * 10 ^ n < 2 ^ 448
ten-room n h = lt_of_le_of_lt (le_trans (le_of_eq (one-mul (10 ^ n))) (ten-le n h)) (lit< tt)

pub ten-shift-room : (n g : ℕ) → n ≤ 64 → g ≤ 189 → 1 * 10 ^ n * 2 ^ (g + 25) < 2 ^ 448
ten-shift-room n g h k = lt_of_le_of_lt (mul-le-mul (le_trans (le_of_eq (one-mul (10 ^ n))) (ten-le n h)) (pow_mono {i = g + 25} {j = 214} (omega arith))) (lit< tt)

pub one-shift-room : (g : ℕ) → g ≤ 320 → 1 * 2 ^ (g + 25) < 2 ^ 448
one-shift-room g h = lt_of_le_of_lt (le_trans (le_of_eq (one-mul (2 ^ (g + 25)))) (pow_mono {i = g + 25} {j = 345} (omega arith))) (lit< tt)

pub ten-pos : (n : ℕ) → 0 < 1 * 10 ^ n
ten-pos n = subst (λ (x : ℕ). 0 < x) (sym (one-mul (10 ^ n))) (one-le-pow n 10 (omega arith))

-- ---- equal fractions
pub cancel-up : (s : Bool) (w e f : ℕ) → f ≤ e → decimal_of s w (e - f) 0 ≡ decimal_of s w e f
unfolding decimal_of
cancel-up s w e f h =
    round_same binary32 s (w * 10 ^ (e - f)) (10 ^ 0) (w * 10 ^ e) (10 ^ f) (omega arith) (one-le-pow f 10 (omega arith))
    (mul_assoc w (10 ^ (e - f)) (10 ^ f) ∙ ap (λ (x : ℕ). w * x) (sym (pow-add 10 (e - f) f) ∙ ap (λ (x : ℕ). 10 ^ x) (omega arith)) ∙ sym (mul-one (w * 10 ^ e)))

pub cancel-down : (s : Bool) (w e f : ℕ) → e ≤ f → decimal_of s w 0 (f - e) ≡ decimal_of s w e f
unfolding decimal_of
cancel-down s w e f h =
    round_same binary32 s (w * 10 ^ 0) (10 ^ (f - e)) (w * 10 ^ e) (10 ^ f) (one-le-pow (f - e) 10 (omega arith)) (one-le-pow f 10 (omega arith))
    (ap (λ (x : ℕ). x * 10 ^ f) (mul-one w) ∙ ap (λ (x : ℕ). w * 10 ^ x) swap ∙ ap (λ (x : ℕ). w * x) (pow-add 10 e (f - e)) ∙ sym (mul_assoc w (10 ^ e) (10 ^ (f - e))))
  where
    swap : f ≡ e + (f - e)
    swap = omega arith

-- ---- zero, too small, too large
units-zero : (s : Bool) → units binary32 s 0 0 ≡ fin s 0 (pos 0)
unfolding units odd
units-zero s = refl

closest-zero : (n den : ℕ) → n * 2 < den → closest n den ≡ 0
closest-zero n den h = sym (nearest-below n den 0 (sym (div-eq_of_lt (omega arith))) (omega (arith, mul-one den)))

-- 2^277 units and more stay so many
reached : (n k : ℕ) → 2 ^ 277 ≤ n → k ≡ size (n / 1) - 24 → 2 ^ 277 ≤ closest n (1 * 2 ^ k) * 2 ^ k
reached n k big e = go (full-digits n 1 k (omega arith) (kept-reaches n 1 k (omega arith) e))
  where
    digits : 277 < size (n / 1)
    digits = pow_lt_back 277 (size (n / 1)) (lt_of_le_of_lt (le_trans big (le_of_eq (sym (div-one n)))) (size-lt (n / 1)))

    many : 254 ≤ k
    many = omega (arith, digits)

    go : (k ≡ 0) ⊎ (2 ^ 23 ≤ closest n (1 * 2 ^ k)) → 2 ^ 277 ≤ closest n (1 * 2 ^ k) * 2 ^ k
    go (inl z) = absurd (omega (arith, many))
    go (inr f) = le_trans (le_trans (pow_mono {i = 277} {j = 23 + k} (omega (arith, many))) (le_of_eq (pow-add 2 23 k))) (mul-le-mul_right (2 ^ k) f)

no-digits : size 0 - 24 ≡ 0
unfolding size
no-digits = refl

half-less : (n den : ℕ) → n * 2 < den → n < den
half-less n den h = omega arith

nothing : (num den : ℕ) → num * 2 ^ 149 * 2 < den → (s : Bool) → round binary32 s num den ≡ fin s 0 (pos 0)
nothing num den h s =
    let n = num * 2 ^ 149 in
    let none : n / den ≡ 0 = div-eq_of_lt (half-less n den h) in
    round_is binary32 s num den
    ∙ ap (λ (x : ℕ). units binary32 s (closest n (den * 2 ^ (size x - 24))) (size x - 24)) none
    ∙ ap (λ (x : ℕ). units binary32 s (closest n (den * 2 ^ x)) x) no-digits
    ∙ ap (λ (x : ℕ). units binary32 s (closest n x) 0) (mul-one den)
    ∙ ap (λ (x : ℕ). units binary32 s x 0) (closest-zero n den h)
    ∙ units-zero s

pub zero-digits : (s : Bool) (a b : ℕ) → decimal_of s 0 a b ≡ fin s 0 (pos 0)
unfolding decimal_of
zero-digits s a b = nothing (0 * 10 ^ a) (10 ^ b) (subst (λ (x : ℕ). x * 2 ^ 149 * 2 < 10 ^ b) (sym (zero-mul (10 ^ a))) (one-le-pow b 10 (omega arith))) s

pub too_small : (s : Bool) (w n : ℕ) → w < 10 ^ 19 → 64 < n → decimal_of s w 0 n ≡ fin s 0 (pos 0)
unfolding decimal_of
too_small s w n h l =
    nothing (w * 10 ^ 0) (10 ^ n)
    (lt_of_lt_of_le
    (lt_of_le_of_lt (le_trans (le_of_eq (ap (λ (x : ℕ). x * 2 ^ 149 * 2) (mul-one w))) (mul-le-mul_right 2 (mul-le-mul_right (2 ^ 149) (le_of_lt h)))) (lit< {m = 10 ^ 19 * 2 ^ 149 * 2} {n = 10 ^ 65} tt))
    (pow-le-pow_right (omega arith) l))
    s

pub too_large : (s : Bool) (w n : ℕ) → 0 < w → 38 < n → decimal_of s w n 0 ≡ inf s
unfolding decimal_of
too_large s w n h l = over (w * 10 ^ n) (le_trans (lit≤ tt) (le_trans (pow-le-pow_right (omega arith) l) (subst (λ (x : ℕ). x ≤ w * 10 ^ n) (one-mul (10 ^ n)) (mul-le-mul_right (10 ^ n) h))))
  where
    over : (num : ℕ) → 2 ^ 128 ≤ num → round binary32 s num 1 ≡ inf s
    over num g =
        let n = num * 2 ^ 149 in
        let k = size (n / 1) - 24 in
        let big : 2 ^ 277 ≤ n = mul-le-mul_right (2 ^ 149) g in
        round_is binary32 s num 1 ∙ units-over s (closest n (1 * 2 ^ k)) k (reached n k big refl)

-- ---- the sign
odd-neg : (d q k l : ℕ) → odd d true q k l ≡ neg (odd d false q k l)
unfolding odd neg
odd-neg d zero k l = refl
odd-neg d (suc q) k l = refl

units-neg : (q k : ℕ) → units binary32 true q k ≡ neg (units binary32 false q k)
unfolding units neg
units-neg q k = go (ltb (q * 2 ^ k) (2 ^ 277))
  where
    go : (t : Bool) → cond t (odd 25 true q k 149) (inf true) ≡ neg (cond t (odd 25 false q k 149) (inf false))
    go true = odd-neg 25 q k 149
    go false = refl

pub negated : (w a b : ℕ) → neg (decimal_of false w a b) ≡ decimal_of true w a b
unfolding decimal_of
negated w a b =
    ap neg (round_is binary32 false (w * 10 ^ a) (10 ^ b)) ∙ sym (units-neg _ _) ∙ sym (round_is binary32 true (w * 10 ^ a) (10 ^ b))

-- ---- exponents from 10^19 on: after fewer than 2^63 digits, a further one changes nothing
pub far-down : (s : Bool) (w n m : ℕ) → w < 10 ^ 19 → 64 < n → 64 < m → decimal_of s w 0 n ≡ decimal_of s w 0 m
far-down s w n m h a b = too_small s w n h a ∙ sym (too_small s w m h b)

pub far-up : (s : Bool) (w n m f : ℕ) → f + 38 < n → f + 38 < m → decimal_of s w n f ≡ decimal_of s w m f
far-up s zero n m f a b = zero-digits s n f ∙ sym (zero-digits s m f)
far-up s (suc w) n m f a b =
    sym (cancel-up s (suc w) n f (omega arith))
    ∙ too_large s (suc w) (n - f) (omega arith) (omega arith)
    ∙ sym (too_large s (suc w) (m - f) (omega arith) (omega arith))
    ∙ cancel-up s (suc w) m f (omega arith)
