-- A binary32 number times a power of two from 2 ^ -20 to 2 ^ 20 is exact, where the result is finite and the exact product is zero or at least 2 ^ -126 in size (`product-exact`). Assumes nothing.
use Rattle.std.proofs.Common.{◌≡◌, ℕ, zero, suc, ◌+◌, ◌-◌, ◌*◌, ◌/◌, ◌^◌, ◌<◌, ◌≤◌, Bool, true, false, not, T, leb, ◌⊎◌, ℤ, pos, ◌*ℤ◌, neg_ℤ, sym, refl, ap, ◌∙◌, subst, inl, inr, le_trans, lt_of_lt_of_le, lt_of_le_of_lt, lt_irrefl, zero-lt-suc, mul_assoc, mul-pos, one-mul, zero-mul, mul_right_comm, mul-div_cancel, arith, leb→le, pow_pos, pow_mono, pow-add, shl_lt}
use native.Mathlib.Nat.{eq_of_mul-eq-mul_right}
use lib.Dec.{nleb→lt}
use lib.Ieee.{Float, nan, inf, fin, minus, unlike, binary32, up, down, round, mul, fits}
use lib.Ieee.Digits.{back, minus_val}
use lib.Ieee.Fits.{down_pos}
use lib.Ieee.Scale.{round_same}
use Rattle.floats.specs.Operators.{◌⊗◌}
use Rattle.floats.specs.Scalar.{is_finite}
use Rattle.floats.specs.Bits.{units_of}
use Rattle.floats.specs.Value.{magnitude_of, exact_value_of, signed_units, ZeroOrNormal}
use Rattle.floats.proofs.RoundingError.{rounded, round-held, round-value}
use Rattle.floats.proofs.BitsLaws.{units-exact}
use Rattle.floats.proofs.UnitValues.{units-digits, value-is}
use Rattle.floats.proofs.SumError.{finite-of}

-- ---- the power of two, 2 ^ (20 - w), in units

abbrev pub scale : ℕ → Float
scale w = fin false 1 (minus 20 w)

apart : (w t : ℕ) → w ≤ t → w + (t - w) ≡ t
apart w t h = omega arith

mass-units : (w : ℕ) → w ≤ 40 → units_of 1 (minus 20 w) ≡ 2 ^ (169 - w)
unfolding units_of
mass-units w h = whole (minus 20 w) (minus_val 1 20 w)
  where
    joined : (w : ℕ) → w ≤ 40 → 20 + (149 - w) ≡ 169 - w
    joined w h = omega arith

    whole : (d : ℤ) → 1 * up d * 2 ^ w ≡ 1 * 2 ^ 20 * down d → 1 * up d * 2 ^ 149 / down d ≡ 2 ^ (169 - w)
    whole d e =
        ap (λ (x : ℕ). x / down d)
        (ap (λ (x : ℕ). 1 * up d * 2 ^ x) (sym (apart w 149 (le_trans h (omega arith))))
        ∙ ap (λ (x : ℕ). 1 * up d * x) (pow-add 2 w (149 - w))
        ∙ sym (mul_assoc (1 * up d) (2 ^ w) (2 ^ (149 - w)))
        ∙ ap (λ (x : ℕ). x * 2 ^ (149 - w)) (e ∙ ap (λ (x : ℕ). x * down d) (one-mul (2 ^ 20)))
        ∙ mul_right_comm (2 ^ 20) (down d) (2 ^ (149 - w))
        ∙ ap (λ (x : ℕ). x * down d) (sym (pow-add 2 20 (149 - w)) ∙ ap (λ (x : ℕ). 2 ^ x) (joined w h)))
        ∙ mul-div_cancel (2 ^ (169 - w)) (down_pos d)

-- ---- P units times 2 ^ 20 over 2 ^ w is a whole number of units, of at most 24 digits and a power of two

record Whole (P w : ℕ) : Type 0 where
  digits : ℕ
  power : ℕ
  few : digits < 2 ^ 24
  is : digits * 2 ^ power * 2 ^ w ≡ P * 2 ^ 20

fine : (m j w : ℕ) → m < 2 ^ 24 → w ≤ j + 20 → Whole (m * 2 ^ j) w
fine m j w few h = record {
  digits = m;
  power = j + 20 - w;
  few = few;
  is =
      mul_assoc m (2 ^ (j + 20 - w)) (2 ^ w)
      ∙ ap (λ (x : ℕ). m * x) (sym (pow-add 2 (j + 20 - w) w) ∙ ap (λ (x : ℕ). 2 ^ x) (back (j + 20) w h) ∙ pow-add 2 j 20)
      ∙ sym (mul_assoc m (2 ^ j) (2 ^ 20));
}

nothing : (P w : ℕ) → P ≡ 0 → Whole P w
nothing P w z = record {
  digits = 0;
  power = 0;
  few = pow_pos 24;
  is = ap (λ (x : ℕ). x * 2 ^ w) (zero-mul 1) ∙ zero-mul (2 ^ w) ∙ sym (ap (λ (x : ℕ). x * 2 ^ 20) z ∙ zero-mul (2 ^ 20));
}

-- with digits below the smallest value it would be too small
small : (m j w : ℕ) → m < 2 ^ 24 → w ≤ 40 → j + 20 < w → 2 ^ 172 ≤ m * 2 ^ j * 2 ^ (169 - w) → ⊥
small m j w few W h l =
    lt_irrefl (2 ^ 172)
    (lt_of_le_of_lt l
    (lt_of_lt_of_le (subst (λ (x : ℕ). x < 2 ^ (24 + (j + (169 - w)))) (ap (λ (x : ℕ). m * x) (pow-add 2 j (169 - w)) ∙ sym (mul_assoc m (2 ^ j) (2 ^ (169 - w)))) (shl_lt 24 (j + (169 - w)) few))
    (pow_mono {i = 24 + (j + (169 - w))} {j = 172} (room j w W h))))
  where
    room : (j w : ℕ) → w ≤ 40 → j + 20 < w → 24 + (j + (169 - w)) ≤ 172
    room j w W h = omega arith

zero-factor : (P u : ℕ) → 0 < u → P * u ≡ 0 → P ≡ 0
zero-factor zero u U h = refl
zero-factor (suc P) u U h = absurd (lt_irrefl 0 (subst (λ (x : ℕ). 0 < x) h (mul-pos (zero-lt-suc P) U)))

whole : (m j w : ℕ) → m < 2 ^ 24 → w ≤ 40 → (m * 2 ^ j * 2 ^ (169 - w) ≡ 0) ⊎ (2 ^ 172 ≤ m * 2 ^ j * 2 ^ (169 - w)) → Whole (m * 2 ^ j) w
whole m j w few W n = go (leb w (j + 20)) (leb→le w (j + 20)) (nleb→lt w (j + 20)) n
  where
    go : (b : Bool) → (T b → w ≤ j + 20) → (T (not b) → j + 20 < w) → (m * 2 ^ j * 2 ^ (169 - w) ≡ 0) ⊎ (2 ^ 172 ≤ m * 2 ^ j * 2 ^ (169 - w)) → Whole (m * 2 ^ j) w
    go true h k n = fine m j w few (h tt)
    go false h k (inl z) = nothing (m * 2 ^ j) w (zero-factor (m * 2 ^ j) (2 ^ (169 - w)) (pow_pos (169 - w)) z)
    go false h k (inr l) = absurd (small m j w few W (k tt) l)

-- ---- the product

signed-times : (s : Bool) (n k : ℕ) → signed_units s n *ℤ pos k ≡ signed_units s (n * k)
signed-times false n k = refl
signed-times true zero k = ap (λ (x : ℕ). pos x) (zero-mul k) ∙ ap (λ (x : ℕ). neg_ℤ (pos x)) (sym (zero-mul k))
signed-times true (suc n) k = refl

unlike-plus : (s : Bool) → unlike s false ≡ s
unlike-plus true = refl
unlike-plus false = refl

-- (a / e) · (u / d), with u / d = 2 ^ 20 / 2 ^ w, and P the units of a / e
fraction : (a e u d L P W w20 w : ℕ) → 0 < w → P * e ≡ a * L → 1 * u * w ≡ 1 * w20 * d → W * w ≡ P * w20 → a * (1 * u) * L ≡ W * (e * d)
fraction a e u d L P W w20 w pw p q r =
    eq_of_mul-eq-mul_right w pw (a * (1 * u) * L) (W * (e * d))
    (regroup a u L w
    ∙ ap (λ (x : ℕ). x * (1 * u * w)) (sym p)
    ∙ ap (λ (x : ℕ). P * e * x) q
    ∙ again P e w20 d
    ∙ ap (λ (x : ℕ). x * (e * d)) (sym r)
    ∙ mul_right_comm W w (e * d))
  where
    regroup : (a u L w : ℕ) → a * (1 * u) * L * w ≡ a * L * (1 * u * w)
    regroup a u L w = omega arith

    again : (P e v d : ℕ) → P * e * (1 * v * d) ≡ P * v * (e * d)
    again P e v d = omega arith

exact-at : (s : Bool) (m : ℕ) (e : ℤ) (w : ℕ) → T (fits binary32 (fin s m e)) → Whole (units_of m e) w → T (is_finite (fin s m e ⊗ scale w))
    → exact_value_of (fin s m e ⊗ scale w) *ℤ pos (2 ^ w) ≡ exact_value_of (fin s m e) *ℤ pos (2 ^ 20)
unfolding mul exact_value_of
exact-at s m e w h q f =
    let d = minus 20 w in
    let W = q.digits * 2 ^ q.power in
    let num = m * up e * (1 * up d) in
    let den = down e * down d in
    let r : round binary32 (unlike s false) num den ≡ round binary32 s W (2 ^ 149) =
    ap (λ (b : Bool). round binary32 b num den) (unlike-plus s)
    ∙ round_same binary32 s num den W (2 ^ 149) (mul-pos (down_pos e) (down_pos d)) (pow_pos 149)
    (fraction (m * up e) (down e) (up d) (down d) (2 ^ 149) (units_of m e) W (2 ^ 20) (2 ^ w) (pow_pos w) (units-exact s m e h) (minus_val 1 20 w) q.is) in
    let x = round binary32 s W (2 ^ 149) in
    let v = round-value binary32 s W (finite-of x (subst (λ (y : Float). T (is_finite y)) r f)) in
    ap (λ (y : Float). exact_value_of y *ℤ pos (2 ^ w)) r
    ∙ ap (λ (z : ℤ). z *ℤ pos (2 ^ w)) (value-is x s (rounded binary32 W) v ∙ ap (signed_units s) (round-held binary32 q.digits q.power q.few))
    ∙ signed-times s W (2 ^ w)
    ∙ ap (signed_units s) q.is
    ∙ sym (signed-times s (units_of m e) (2 ^ 20))

pub product-exact : (x : Float) (w : ℕ) → w ≤ 40 → T (fits binary32 x) → ZeroOrNormal x (scale w) → T (is_finite (x ⊗ scale w))
    → exact_value_of (x ⊗ scale w) *ℤ pos (2 ^ w) ≡ exact_value_of x *ℤ pos (2 ^ 20)
product-exact nan w l h n f = absurd (unfold mul is_finite in f)
product-exact (inf s) w l h n f = absurd (unfold mul is_finite in f)
product-exact (fin s m e) w l h n f =
    let d = (units-digits s m e h).0 in
    let k = (units-digits s m e h).1 in
    let u : units_of m e ≡ d * 2 ^ k = (units-digits s m e h).3 in
    exact-at s m e w h
    (subst (λ (x : ℕ). Whole x w) (sym u)
    (whole d k w (units-digits s m e h).2 l
    (subst (λ (x : ℕ). (x * 2 ^ (169 - w) ≡ 0) ⊎ (2 ^ 172 ≤ x * 2 ^ (169 - w))) u
    (subst (λ (x : ℕ). (units_of m e * x ≡ 0) ⊎ (2 ^ 172 ≤ units_of m e * x)) (mass-units w l) (unfold magnitude_of in n)))))
    f
