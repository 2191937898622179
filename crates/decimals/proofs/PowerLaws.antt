-- Repeated products: v·k^i on the way to v·k^n, and powers that are taken in two parts.
use mathlib.Core.Path.{◌≡◌, sym, ap, ◌∙◌, subst}
use Prim.Native.Nat.{ℕ, zero, suc, ◌+◌, ◌*◌, ◌/◌, ◌%◌, ◌^◌, ◌≤◌, ◌<◌}
use native.Mathlib.Nat.{mul_assoc, mul_comm, mul-one, one-mul, one-le-pow, le-mul_of_pos_right, lt_of_le_of_lt, mul-le-mul_left, pow-suc, pow-zero, pow-le-pow_right, mul-suc, div-add-mod'}
use native.Mathlib.Numerals.{add-one}
use native.Mathlib.Omega.{arith}
use lib.Pow.{pow-add, shl_exact}

pub power-start : (v k : ℕ) → v ≡ v * k ^ 0
power-start v k = sym (ap (λ (x : ℕ). v * x) (pow-zero k) ∙ mul-one v)

pub power-more : (v k i : ℕ) → v * k ^ i * k ≡ v * k ^ (i + 1)
power-more v k i = mul_assoc v (k ^ i) k ∙ ap (λ (x : ℕ). v * x) (sym (pow-suc k i) ∙ ap (λ (x : ℕ). k ^ x) (sym (add-one i)))

pub power-room : (v k n i r m : ℕ) → 0 < k → i < n → r ≡ v * k ^ i → v * k ^ n < m → r * k < m
power-room v k n i r m pos less e h =
    lt_of_le_of_lt (subst (λ (x : ℕ). x ≤ v * k ^ n) (sym (ap (λ (x : ℕ). x * k) e ∙ power-more v k i)) (mul-le-mul_left v (pow-le-pow_right pos (omega arith)))) h

pow-mul : (k a b : ℕ) → (k ^ a) ^ b ≡ k ^ (a * b)
pow-mul k a zero = refl'
  where
    refl' : (k ^ a) ^ 0 ≡ k ^ (a * 0)
    refl' = pow-zero (k ^ a) ∙ sym (pow-zero k) ∙ ap (λ (x : ℕ). k ^ x) (omega arith)
pow-mul k a (suc b) =
    pow-suc (k ^ a) b ∙ ap (λ (x : ℕ). x * k ^ a) (pow-mul k a b) ∙ sym (pow-add k (a * b) a) ∙ ap (λ (x : ℕ). k ^ x) (sym (mul-suc a b))

-- k^n as a power of k^s and what is left of it
pub power-parts : (v k s n : ℕ) → v * (k ^ s) ^ (n / s) * k ^ (n % s) ≡ v * k ^ n
power-parts v k s n =
    mul_assoc v ((k ^ s) ^ (n / s)) (k ^ (n % s))
    ∙ ap (λ (x : ℕ). v * x)
    (ap (λ (x : ℕ). x * k ^ (n % s)) (pow-mul k s (n / s)) ∙ sym (pow-add k (s * (n / s)) (n % s)) ∙ ap (λ (x : ℕ). k ^ x) (ap (λ (x : ℕ). x + n % s) (mul_comm s (n / s)) ∙ div-add-mod' n s))

-- so each part is small where the whole is
pub parts-room : (v k s n m : ℕ) → 0 < k → v * k ^ n < m → v * (k ^ s) ^ (n / s) < m
parts-room v k s n m pos h =
    lt_of_le_of_lt (subst (λ (x : ℕ). v * (k ^ s) ^ (n / s) ≤ x) (power-parts v k s n) (le-mul_of_pos_right (v * (k ^ s) ^ (n / s)) (one-le-pow (n % s) k pos))) h

pub second-part : (v k s n r : ℕ) → r ≡ v * (k ^ s) ^ (n / s) → r * k ^ (n % s) ≡ v * k ^ n
second-part v k s n r e = ap (λ (x : ℕ). x * k ^ (n % s)) e ∙ power-parts v k s n

pub second-room : (v k s n r m : ℕ) → r ≡ v * (k ^ s) ^ (n / s) → v * k ^ n < m → r * k ^ (n % s) < m
second-room v k s n r m e h = subst (λ (x : ℕ). x < m) (sym (second-part v k s n r e)) h

-- a shift of 1 by less than the width
pub one_shifted : (j : ℕ) → j < 32 → 1 * 2 ^ j % 2 ^ 32 ≡ 2 ^ j
one_shifted j h = shl_exact {a = 1} 1 j 32 (omega arith) (omega arith) ∙ one-mul (2 ^ j)
