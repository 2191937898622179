-- A mask's three lowest bits: F by trailing zeros, and tests that are computed at all masks below 8.
-- Assumes nothing.
use Prim.Native.Nat.{ℕ, zero, suc, ◌-◌, ◌/◌, ◌%◌, ◌^◌, ◌<◌}
use native.Mathlib.Nat.{le_of_suc-le-suc, not-suc-le-zero}
use native.Mathlib.Omega.{arith}
use mathlib.Core.Path.{◌≡◌, refl, ap}
use mathlib.Core.Bool.{Bool, true, false, cond, ◌&&◌}
use mathlib.Core.List.{[], ◌∷◌}
use lib.Bits.{bit_and, and_mask}
use lib.Count.{count_trailing_zeros}
use lib.Dec.{T, eqb, ltb}
use Rattle.rows.specs.RowIds.{has_axis, axes, keep, lowest}

-- ---- F

low4-0 : (x : ℕ) → has_axis (x % 4) 0 ≡ has_axis x 0
unfolding has_axis
low4-0 x = let e : x % 4 / 2 ^ 0 % 2 ≡ x / 2 ^ 0 % 2 = omega arith in ap (λ t. eqb t 1) e

low4-1 : (x : ℕ) → has_axis (x % 4) 1 ≡ has_axis x 1
unfolding has_axis
low4-1 x = let e : x % 4 / 2 ^ 1 % 2 ≡ x / 2 ^ 1 % 2 = omega arith in ap (λ t. eqb t 1) e

first4 : (d : ℕ) → d < 4 → lowest (keep (λ i. has_axis d i) (axes 0 2)) ≡ cond (ltb (count_trailing_zeros 32 d) 2) (count_trailing_zeros 32 d ∷ []) []
unfolding has_axis count_trailing_zeros
first4 zero h = refl
first4 (suc zero) h = refl
first4 (suc (suc zero)) h = refl
first4 (suc (suc (suc zero))) h = refl
first4 (suc (suc (suc (suc d)))) h = absurd (omega arith)

pub first-coupled : (x : ℕ) → lowest (keep (λ i. has_axis x i) (axes 0 2))
    ≡ cond (ltb (count_trailing_zeros 32 (bit_and x 3)) 2) (count_trailing_zeros 32 (bit_and x 3) ∷ []) []
first-coupled x = rw (and_mask x 2, ← low4-0 x, ← low4-1 x) (first4 (x % 4) (omega arith))

-- ---- tests

-- the test passes at each number below n
abbrev pub below : ℕ → (ℕ → Bool) → Bool
below zero f = true
below (suc n) f = f 0 && below n (λ i. f (suc i))

and_left : (a b : Bool) → T (a && b) → T a
and_left true b t = tt
and_left false b t = t

and_right : (a b : Bool) → T (a && b) → T b
and_right true b t = t
and_right false b t = absurd t

pub at : (n : ℕ) (f : ℕ → Bool) → T (below n f) → (i : ℕ) → i < n → T (f i)
at zero f t i h = absurd (not-suc-le-zero h)
at (suc n) f t zero h = and_left (f 0) (below n (λ i. f (suc i))) t
at (suc n) f t (suc i) h = at n (λ i. f (suc i)) (and_right (f 0) (below n (λ i. f (suc i))) t) i (le_of_suc-le-suc h)

pub low8-0 : (x : ℕ) → has_axis (x % 8) 0 ≡ has_axis x 0
unfolding has_axis
low8-0 x = let e : x % 8 / 2 ^ 0 % 2 ≡ x / 2 ^ 0 % 2 = omega arith in ap (λ t. eqb t 1) e

pub low8-1 : (x : ℕ) → has_axis (x % 8) 1 ≡ has_axis x 1
unfolding has_axis
low8-1 x = let e : x % 8 / 2 ^ 1 % 2 ≡ x / 2 ^ 1 % 2 = omega arith in ap (λ t. eqb t 1) e

pub low8-2 : (x : ℕ) → has_axis (x % 8) 2 ≡ has_axis x 2
unfolding has_axis
low8-2 x = let e : x % 8 / 2 ^ 2 % 2 ≡ x / 2 ^ 2 % 2 = omega arith in ap (λ t. eqb t 1) e

-- m without the axes of l and of c
abbrev pub without : ℕ → ℕ → ℕ → ℕ
without m l c = bit_and (bit_and m (4294967295 - l)) (4294967295 - c)
