-- The steps of `round`: how many digits are dropped, the quotient, and its nearest whole number.
use mathlib.Core.Path.{◌≡◌, refl, sym, ap, ◌∙◌, subst}
use mathlib.Core.Logic.{◌⊎◌, inl, inr}
use Prim.Native.Nat.{ℕ, zero, suc, ◌+◌, ◌-◌, ◌*◌, ◌/◌, ◌%◌, ◌^◌, ◌≤◌, ◌<◌, compare}
use native.Mathlib.Nat.{le_trans, le_of_eq, lt_of_lt_of_le, lt_of_le_of_lt, mul_comm, mul_assoc, mul-add, mul-one, mul-zero, one-mul, mul-pos, mul-le-mul_left, mul-le-mul_right, mul-lt-mul_of_pos_right, div-add-mod', le-div_iff_mul-le, div-lt_iff_lt-mul, div-eq_of_lt-le}
use native.Mathlib.Omega.{arith}
use lib.Pow.{pow-add, pow_pos, pow_mono}
use lib.Ieee.{nearest, size}
use lib.Ieee.Digits.{size-lt, size-le, size_reaches}
use lib.Ieee.Fits.{nearest-le}
use lib.Ieee.Nearest.{closest, nearest-ge}
use Rattle.floats.proofs.HalfEven.{cases}
use Rattle.floats.proofs.Pattern.{pow_lt_back}

-- ---- the quotient
pub product-room : (d k m b : ℕ) → k ≤ b → d * b < m → d * k < m
product-room d k m b h l = lt_of_le_of_lt (mul-le-mul_left d h) l

pub most_pos : (n d most : ℕ) → n < d * most → 0 < most
most_pos n d zero h = omega (arith, mul-zero d)
most_pos n d (suc m) h = omega arith

pub quotient_is : (n d low high : ℕ) → high ≡ low + 1 → d * low ≤ n → n < d * high → low ≡ n / d
quotient_is n d low high e lo hi =
    sym (div-eq_of_lt-le d (subst (λ (x : ℕ). x ≤ n) (mul_comm d low) lo) (subst (λ (x : ℕ). n < x) (mul_comm d (low + 1)) (rw e at hi)))

-- ---- the nearest whole number
pub below : (q a b : ℕ) → a < b → q ≡ nearest q (compare a b)
below q a b h = cases (λ (x : ℕ). q ≡ x) q a b (λ _. refl) (λ e. absurd (omega arith)) (λ l. absurd (omega arith))

pub tied : (q a b : ℕ) → a ≡ b → q + q % 2 ≡ nearest q (compare a b)
tied q a b h = cases (λ (x : ℕ). q + q % 2 ≡ x) q a b (λ l. absurd (omega arith)) (λ _. refl) (λ l. absurd (omega arith))

pub above : (q a b : ℕ) → b < a → q + 1 ≡ nearest q (compare a b)
above q a b h = cases (λ (x : ℕ). q + 1 ≡ x) q a b (λ l. absurd (omega arith)) (λ e. absurd (omega arith)) (λ _. refl)

-- the program compares 2n with (2q + 1)d, where q = n / d
module _ (n d q : ℕ) (e : q ≡ n / d) where
  whole : q * d + n % d ≡ n
  whole = ap (λ (x : ℕ). x * d + n % d) e ∙ div-add-mod' n d

  middle : d * (2 * q + 1) ≡ q * d * 2 + d
  middle = mul-add d (2 * q) 1 ∙ omega (arith, sym (mul_assoc d 2 q) ∙ ap (λ (x : ℕ). x * q) (mul_comm d 2) ∙ mul_assoc 2 d q, mul_comm d q, mul-one d)

  pub nearest-below : n * 2 < d * (2 * q + 1) → q ≡ closest n d
  nearest-below h = below q (n % d * 2) d (omega (arith, whole, middle)) ∙ ap (λ (x : ℕ). nearest x (compare (n % d * 2) d)) e

  pub nearest-tied : n * 2 ≡ d * (2 * q + 1) → q + q % 2 ≡ closest n d
  nearest-tied h = tied q (n % d * 2) d (omega (arith, whole, middle)) ∙ ap (λ (x : ℕ). nearest x (compare (n % d * 2) d)) e

  pub nearest-above : d * (2 * q + 1) < n * 2 → q + 1 ≡ closest n d
  nearest-above h = above q (n % d * 2) d (omega (arith, whole, middle)) ∙ ap (λ (x : ℕ). nearest x (compare (n % d * 2) d)) e

-- ---- the digits that are dropped
-- den · 2^i is at most n only while 2^i is small
pub digits-bounded : (n den i m : ℕ) → 0 < den → den * 2 ^ i ≤ n → n < 2 ^ m → i < m
digits-bounded n den i m pos h l =
    pow_lt_back i m (lt_of_le_of_lt (le_trans (subst (λ (x : ℕ). x ≤ den * 2 ^ i) (one-mul (2 ^ i)) (mul-le-mul_right (2 ^ i) pos)) h) l)

pub dropped-is : (n den k : ℕ) → 0 < den → n < den * 2 ^ (k + 24) → (k ≡ 0) ⊎ (den * 2 ^ (k + 23) ≤ n) → k ≡ size (n / den) - 24
dropped-is n den k pos hi (inl z) =
    let u : size (n / den) ≤ k + 24 = size-le (n / den) (k + 24) ((div-lt_iff_lt-mul pos).1 (subst (λ (x : ℕ). n < x) (mul_comm den (2 ^ (k + 24))) hi)) in
    omega arith
dropped-is n den k pos hi (inr h) =
    let u : size (n / den) ≤ k + 24 = size-le (n / den) (k + 24) ((div-lt_iff_lt-mul pos).1 (subst (λ (x : ℕ). n < x) (mul_comm den (2 ^ (k + 24))) hi)) in
    let l : 2 ^ (k + 23) ≤ n / den = (le-div_iff_mul-le pos).1 (subst (λ (x : ℕ). x ≤ n) (mul_comm den (2 ^ (k + 23))) h) in
    let g : k + 23 < size (n / den) = pow_lt_back (k + 23) (size (n / den)) (lt_of_le_of_lt l (size-lt (n / den))) in
    omega arith

pub half_up : (den k e : ℕ) → e ≡ den * 2 ^ (k + 24) → e * 2 ≡ den * 2 ^ (k + 1 + 24)
half_up den k e h = ap (λ (x : ℕ). x * 2) h ∙ mul_assoc den (2 ^ (k + 24)) 2 ∙ ap (λ (x : ℕ). den * x) (sym (pow-add 2 (k + 24) 1) ∙ ap (λ (x : ℕ). 2 ^ x) (omega arith))

pub more-digits : (n den k : ℕ) → den * 2 ^ (k + 24) ≤ n → den * 2 ^ (k + 1 + 23) ≤ n
more-digits n den k h = subst (λ (x : ℕ). den * 2 ^ x ≤ n) (omega arith) h

-- twice a number below 2^400 is below 2^448
pub double-room : (e n : ℕ) → e ≤ n → n < 2 ^ 400 → e * 2 < 2 ^ 448
double-room e n h l = lt_of_lt_of_le (mul-lt-mul_of_pos_right (lt_of_le_of_lt h l) (omega arith)) (pow_mono {i = 401} {j = 448} (omega arith))

pub shift-room : (den i j m : ℕ) → i ≤ j → den * 2 ^ j < m → den * 2 ^ i < m
shift-room den i j m h l = lt_of_le_of_lt (mul-le-mul_left den (pow_mono h)) l

-- ---- what holds of the number of digits dropped
module _ (n den k : ℕ) (pos : 0 < den) (e : k ≡ size (n / den) - 24) where
  pub kept-below : n < den * 2 ^ k * 2 ^ 24
  kept-below =
      let h : n < 2 ^ size (n / den) * den = (div-lt_iff_lt-mul pos).0 (size-lt (n / den)) in
      let g : 2 ^ size (n / den) * den ≤ den * (2 ^ k * 2 ^ 24) = le_trans (le_of_eq (mul_comm (2 ^ size (n / den)) den)) (mul-le-mul_left den (le_trans (pow_mono {j = k + 24} (omega arith)) (le_of_eq (pow-add 2 k 24)))) in
      lt_of_lt_of_le h (le_trans g (le_of_eq (sym (mul_assoc den (2 ^ k) (2 ^ 24)))))

  pub kept-reaches : (k ≡ 0) ⊎ (den * 2 ^ k * 2 ^ 23 ≤ n)
  kept-reaches = go k e
    where
      go : (j : ℕ) → j ≡ size (n / den) - 24 → (j ≡ 0) ⊎ (den * 2 ^ j * 2 ^ 23 ≤ n)
      go zero f = inl refl
      go (suc j) f =
          inr (le_trans (le_of_eq (mul_assoc den (2 ^ suc j) (2 ^ 23) ∙ mul_comm den (2 ^ suc j * 2 ^ 23) ∙ ap (λ (x : ℕ). x * den) (sym (pow-add 2 (suc j) 23))))
          ((le-div_iff_mul-le pos).0 (size_reaches (n / den) (suc j + 23) (omega arith))))

-- ---- room for the middle and for twice the number
pub quotient-below : (n d q most : ℕ) → 0 < d → n < d * most → q ≡ n / d → q < most
quotient-below n d q most pos h e = subst (λ (x : ℕ). x < most) (sym e) ((div-lt_iff_lt-mul pos).1 (subst (λ (x : ℕ). n < x) (mul_comm d most) h))

pub twice-room : (n d most m : ℕ) → n < d * most → d * (most * 2) < m → n * 2 < m
twice-room n d most m h l = omega (arith, mul_assoc d most 2)

pub smaller-room : (d most m : ℕ) → d * (most * 2) < m → d * most < m
smaller-room d most m h = omega (arith, mul_assoc d most 2)

-- ---- room for the next shift
pub next-room : (n den k : ℕ) → den * 2 ^ (k + 24) ≤ n → n < 2 ^ 400 → den * 2 ^ (k + 1 + 24) < 2 ^ 448
next-room n den k h l = subst (λ (x : ℕ). x < 2 ^ 448) (half_up den k (den * 2 ^ (k + 24)) refl) (double-room (den * 2 ^ (k + 24)) n h l)

-- ---- the digits that are kept, rounded: 24, or fewer where none is dropped
pub closest-le : (n d m : ℕ) → 0 < d → n < d * m → closest n d ≤ m
closest-le n d m pos h = le_trans (nearest-le (n / d) (compare (n % d * 2) d)) ((div-lt_iff_lt-mul pos).1 (subst (λ (x : ℕ). n < x) (mul_comm d m) h))

pub closest-ge : (n d m : ℕ) → 0 < d → d * m ≤ n → m ≤ closest n d
closest-ge n d m pos h = le_trans ((le-div_iff_mul-le pos).1 (subst (λ (x : ℕ). x ≤ n) (mul_comm d m) h)) (nearest-ge (n / d) (compare (n % d * 2) d))

pub full-digits : (n den k : ℕ) → 0 < den → (k ≡ 0) ⊎ (den * 2 ^ k * 2 ^ 23 ≤ n) → (k ≡ 0) ⊎ (2 ^ 23 ≤ closest n (den * 2 ^ k))
full-digits n den k pos (inl z) = inl z
full-digits n den k pos (inr h) = inr (closest-ge n (den * 2 ^ k) (2 ^ 23) (mul-pos pos (pow_pos k)) h)

-- room for the nearest whole number
pub kept-room : (n den k : ℕ) → (k ≡ 0) ⊎ (den * 2 ^ k * 2 ^ 23 ≤ n) → den * 2 ^ 25 < 2 ^ 448 → n < 2 ^ 400 → den * 2 ^ k * 2 ^ 25 < 2 ^ 448
kept-room n den k (inl z) h l = subst (λ (x : ℕ). den * 2 ^ x * 2 ^ 25 < 2 ^ 448) (sym z) (subst (λ (x : ℕ). x * 2 ^ 25 < 2 ^ 448) (sym (mul-one den)) h)
kept-room n den k (inr g) h l =
    lt_of_le_of_lt (le_trans (le_of_eq (sym (mul_assoc (den * 2 ^ k) (2 ^ 23) 4))) (mul-le-mul_right 4 g)) (lt_of_lt_of_le (mul-lt-mul_of_pos_right l (omega arith)) (pow_mono {i = 402} {j = 448} (omega arith)))
