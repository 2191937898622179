-- No binary32 value lies between a finite number and the same with its spacing added, away from zero (`spacing-next`): the spacing is no more than the distance to the
-- next value. Assumes nothing.
use Rattle.std.proofs.Common.{◌≡◌, ℕ, ◌+◌, ◌-◌, ◌*◌, ◌^◌, ◌<◌, ◌≤◌, T, sym, ap, ◌∙◌, subst, lt_trans, mul-le-mul_right, mul_assoc, lt_of_mul-lt-mul_right, arith, pow-add, shl_lt}
use lib.Ieee.{Float, nan, inf, fin, binary32, size, fits}
use lib.Ieee.Digits.{back, size-lt, size-le}
use Rattle.floats.specs.Scalar.{is_finite}
use Rattle.floats.specs.Value.{magnitude_of, spacing_of}
use Rattle.floats.proofs.UnitValues.{units-digits}

-- a finite number's size: at most 24 digits, times a power of two
record Digits (n : ℕ) : Type 0 where
  digits : ℕ
  power : ℕ
  few : digits < 2 ^ 24
  is : n ≡ digits * 2 ^ power

magnitude-digits : (x : Float) → T (fits binary32 x) → T (is_finite x) → Digits (magnitude_of x)
unfolding magnitude_of
magnitude-digits nan h f = absurd (unfold is_finite in f)
magnitude-digits (inf s) h f = absurd (unfold is_finite in f)
magnitude-digits (fin s m e) h f = let u = units-digits s m e h in record { digits = u.0; power = u.1; few = u.2; is = u.3 }

-- it is a multiple of 2 to any power that leaves out no more than what lies past 24 digits
multiple : (n j : ℕ) → Digits n → j ≤ size n - 24 → (q : ℕ) × (n ≡ q * 2 ^ j)
multiple n j d h =
    let k = d.power in
    let l : j ≤ k = short (size n) k j (size-le n (24 + k) (subst (λ (x : ℕ). x < 2 ^ (24 + k)) (sym d.is) (shl_lt 24 k d.few))) h in (
      d.digits * 2 ^ (k - j),
      d.is
          ∙ ap (λ (x : ℕ). d.digits * x) (ap (λ (x : ℕ). 2 ^ x) (sym (back k j l)) ∙ pow-add 2 (k - j) j)
          ∙ sym (mul_assoc d.digits (2 ^ (k - j)) (2 ^ j)),
    )
  where
    short : (z k j : ℕ) → z ≤ 24 + k → j ≤ z - 24 → j ≤ k
    short z k j a b = omega arith

next_multiple : (u a b n N : ℕ) → n ≡ a * u → N ≡ b * u → n < N → n + u ≤ N
next_multiple u a b n N e f h =
    let l : a < b = lt_of_mul-lt-mul_right u (subst (λ (x : ℕ). x < b * u) e (subst (λ (x : ℕ). n < x) f h)) in
    let g : (a + 1) * u ≤ b * u = mul-le-mul_right u (more a b l) in
    omega arith
  where
    more : (a b : ℕ) → a < b → a + 1 ≤ b
    more a b l = omega arith

pub spacing-next : (x y : Float) → T (fits binary32 x) → T (fits binary32 y) → T (is_finite x) → T (is_finite y) → magnitude_of x < magnitude_of y → magnitude_of x + spacing_of x ≤ magnitude_of y
unfolding spacing_of
spacing-next x y p q f g h =
    let n = magnitude_of x in
    let N = magnitude_of y in
    let j = size n - 24 in
    let z : size n ≤ size N = size-le n (size N) (lt_trans h (size-lt N)) in
    let a = multiple n j (magnitude-digits x p f) (omega arith) in
    let b = multiple N j (magnitude-digits y q g) (omega arith) in
    next_multiple (2 ^ j) a.0 b.0 n N a.1 b.1 h
