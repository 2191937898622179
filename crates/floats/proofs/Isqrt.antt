-- `isqrt n` is the square root of n without its fraction: its square is at most n, and the square of the next number is above n. It is the only such number.
-- Assumes nothing.
use Rattle.std.proofs.Common.{◌≡◌, ℕ, zero, suc, ◌+◌, ◌*◌, ◌^◌, ◌<◌, ◌≤◌, Bool, true, false, cond, not, T, leb, add_assoc, mul-le-mul, lt_of_not-le, arith, leb→le}
use native.Mathlib.Nat.{two-pow-succ}
use lib.Dec.{nleb→lt}
use lib.Ieee.{size}
use lib.Ieee.Digits.{size-lt}
use Rattle.floats.specs.Sqrt.{isqrt_from, isqrt}

-- r is the root of n without its fraction, if its square is at most n and n is below the square of r + w for a w of 1
abbrev Within : ℕ → ℕ → ℕ → Type 0
Within n r w = (r * r ≤ n) × (n < (r + w) * (r + w))

below-square : (a b n : ℕ) → a * a ≤ n → n < b * b → a < b
below-square a b n h k = lt_of_not-le (λ (g : b ≤ a). no (mul-le-mul g g))
  where
    no : b * b ≤ a * a → ⊥
    no g = omega arith

-- ---- the digits, from the top

digits : (d n r : ℕ) → Within n r (2 ^ d) → Within n (isqrt_from d n r) 1
unfolding isqrt_from
digits zero n r h = h
digits (suc d) n r h = go (leb ((r + 2 ^ d) * (r + 2 ^ d)) n) (leb→le ((r + 2 ^ d) * (r + 2 ^ d)) n) (nleb→lt ((r + 2 ^ d) * (r + 2 ^ d)) n) (digits d n)
  where
    go : (b : Bool) → (T b → (r + 2 ^ d) * (r + 2 ^ d) ≤ n) → (T (not b) → n < (r + 2 ^ d) * (r + 2 ^ d)) → ((s : ℕ) → Within n s (2 ^ d) → Within n (isqrt_from d n s) 1)
        → Within n (isqrt_from d n (cond b (r + 2 ^ d) r)) 1
    go true f g ih = ih (r + 2 ^ d) (f tt, rw (add_assoc r (2 ^ d) (2 ^ d), ← two-pow-succ d) h.1)
    go false f g ih = ih r (h.0, g tt)

root : (n : ℕ) → Within n (isqrt n) 1
unfolding isqrt
root n = digits (size n) n 0 (omega arith, above (2 ^ size n) (size-lt n))
  where
    above : (p : ℕ) → n < p → n < (0 + p) * (0 + p)
    above p h = omega (arith, mul-le-mul h h)

-- ---- the laws

pub isqrt-le : (n : ℕ) → isqrt n * isqrt n ≤ n
isqrt-le n = (root n).0

pub isqrt-lt : (n : ℕ) → n < (isqrt n + 1) * (isqrt n + 1)
isqrt-lt n = (root n).1

pub isqrt-only : (n r : ℕ) → r * r ≤ n → n < (r + 1) * (r + 1) → r ≡ isqrt n
isqrt-only n r h k =
    omega (arith, below-square r (isqrt n + 1) n h (isqrt-lt n), below-square (isqrt n) (r + 1) n (isqrt-le n) k)

-- a number whose square is at most n is at most the root, and one whose square is above n is above the root
pub isqrt-reaches : (a n : ℕ) → a * a ≤ n → a ≤ isqrt n
isqrt-reaches a n h = omega (arith, below-square a (isqrt n + 1) n h (isqrt-lt n))

pub isqrt-below : (b n : ℕ) → n < b * b → isqrt n < b
isqrt-below b n h = below-square (isqrt n) b n (isqrt-le n) h
