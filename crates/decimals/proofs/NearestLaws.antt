-- `decimal_of` is the binary32 value nearest to the decimal, and of two equally near the even one; where it is no infinity, it has so many units.
use mathlib.Core.Path.{◌≡◌, refl, sym, ap, ◌∙◌, subst}
use mathlib.Core.Logic.{◌⊎◌, inl, inr}
use mathlib.Core.Bool.{Bool, false}
use Prim.Native.Nat.{ℕ, zero, suc, ◌+◌, ◌-◌, ◌*◌, ◌/◌, ◌%◌, ◌^◌, ◌≤◌, ◌<◌}
use native.Mathlib.Nat.{le_trans, le_of_eq, le_of_lt, mul_comm, mul_assoc, mul-pos, mul-le-mul_right, add-mul, add-zero, one-mul, mod-lt, div-add-mod', one-le-pow}
use native.Mathlib.Omega.{arith}
use lib.Pow.{pow-add, pow_pos, pow_mono}
use lib.Ieee.{inf, binary32, size}
use lib.Ieee.Exact.{HasValue, units_val}
use lib.Ieee.Fits.{round_is}
use lib.Ieee.Nearest.{closest}
use Rattle.decimals.specs.Rounding.{decimal_of}
use Rattle.decimals.specs.Nearest.{distance, NearestUnits}
use Rattle.decimals.proofs.RoundingLaws.{below, tied, above, kept-reaches}
use Rattle.decimals.proofs.PatternLaws.{side, units-over}

-- a number of d's is at most q of them, or at least q + 1
beside : (q m d : ℕ) → (m * d ≤ q * d) ⊎ (q * d + d ≤ m * d)
beside q m d =
    elim (side q m) [
      | inl l ↦ inr (omega (arith, mul-le-mul_right d (more l)))
      | inr g ↦ inl (mul-le-mul_right d g)
    ]
  where
    more : q < m → q + 1 ≤ m
    more l = omega arith

-- ---- the nearest whole number of d's
module _ (n d : ℕ) (pos : 0 < d) where
  whole : n / d * d + n % d ≡ n
  whole = div-add-mod' n d

  rest : n % d < d
  rest = mod-lt n pos

  low : n % d * 2 ≤ d → (m : ℕ) → distance n (n / d * d) ≤ distance n (m * d)
  low h m = elim (beside (n / d) m d) [ inl l ↦ omega (arith, whole) | inr g ↦ omega (arith, whole) ]

  up_one : (n / d + 1) * d ≡ n / d * d + d
  up_one = add-mul (n / d) 1 d ∙ ap (λ (x : ℕ). n / d * d + x) (one-mul d)

  high : d ≤ n % d * 2 → (m : ℕ) → distance n ((n / d + 1) * d) ≤ distance n (m * d)
  high h m = elim (beside (n / d) m d) [ inl l ↦ omega (arith, whole, up_one, rest) | inr g ↦ omega (arith, whole, up_one, rest) ]

  low-is : n % d * 2 ≤ d → distance n (n / d * d) ≡ n % d
  low-is h = omega (arith, whole)

  high_is : d ≤ n % d * 2 → distance n ((n / d + 1) * d) + n % d ≡ d
  high_is h = omega (arith, whole, up_one, rest)

  Good : ℕ → Type 0
  Good c = ((m : ℕ) → distance n (c * d) ≤ distance n (m * d)) × (distance n (c * d) * 2 ≡ d → c % 2 ≡ 0)

  at-tie : n % d * 2 ≡ d → (b : ℕ) → n / d % 2 ≡ b → Good (n / d + b)
  unfolding Good
  at-tie h zero e = subst (λ (c : ℕ). ((m : ℕ) → distance n (c * d) ≤ distance n (m * d)) × (distance n (c * d) * 2 ≡ d → c % 2 ≡ 0)) (sym (add-zero (n / d))) (low (omega arith), λ t. e)
  at-tie h (suc zero) e = (high (omega arith), λ t. omega (arith, e))
  at-tie h (suc (suc b)) e = absurd (omega (arith, e))

  good : Good (closest n d)
  good = go (side (n % d * 2) d) (side d (n % d * 2))
    where
      go : (n % d * 2 < d) ⊎ (d ≤ n % d * 2) → (d < n % d * 2) ⊎ (n % d * 2 ≤ d) → Good (closest n d)
      go (inl l) s = subst Good (below (n / d) (n % d * 2) d l) (unfold Good in (low (omega arith), λ t. absurd (omega (arith, t, low-is (omega arith)))))
      go (inr g) (inl l) = subst Good (above (n / d) (n % d * 2) d l) (unfold Good in (high (omega arith), λ t. absurd (omega (arith, t, high_is (omega arith)))))
      go (inr g) (inr h) = subst Good (tied (n / d) (n % d * 2) d (omega arith)) (at-tie (omega arith) (n / d % 2) refl)

-- ---- the units that are kept
module _ (num den : ℕ) (pos : 0 < den) where
  abbrev n : ℕ
  n = num * 2 ^ 149

  abbrev k : ℕ
  k = size (num * 2 ^ 149 / den) - 24

  abbrev c : ℕ
  c = closest (num * 2 ^ 149) (den * 2 ^ k)

  -- m · 2^k units, times den
  as-whole : (m : ℕ) → m * 2 ^ k * den ≡ m * (den * 2 ^ k)
  as-whole m = mul_assoc m (2 ^ k) den ∙ ap (λ (x : ℕ). m * x) (mul_comm (2 ^ k) den)

  room : 0 < den * 2 ^ k
  room = mul-pos pos (pow_pos k)

  nearest-multiple : (m : ℕ) → distance n (c * 2 ^ k * den) ≤ distance n (m * 2 ^ k * den)
  unfolding Good
  nearest-multiple m = rw (as-whole c, as-whole m) ((good n (den * 2 ^ k) room).0 m)

  -- a value with smaller digits lies below 2^23 · 2^k units, and so does not come nearer than these
  farther : (u v d : ℕ) → u ≤ v → v ≤ d → distance d v ≤ distance d u
  farther u v d h l = omega arith

  small : (q j : ℕ) → q < 2 ^ 24 → j < k → q * 2 ^ j * den ≤ 2 ^ 23 * 2 ^ k * den
  small q j h l =
      mul-le-mul_right den
      (le_trans (mul-le-mul_right (2 ^ j) (le_of_lt h)) (le_trans (le_of_eq (sym (pow-add 2 24 j))) (le_trans (pow_mono {i = 24 + j} {j = 23 + k} (omega arith)) (le_of_eq (pow-add 2 23 k)))))

  reaches : (j : ℕ) → j < k → 2 ^ 23 * 2 ^ k * den ≤ n
  reaches j l =
      elim (kept-reaches n den k pos refl) [
        | inl z ↦ absurd (omega arith)
        | inr h ↦ le_trans (le_of_eq (as-whole (2 ^ 23) ∙ mul_comm (2 ^ 23) (den * 2 ^ k))) h
      ]

  least : (q j : ℕ) → q < 2 ^ 24 → distance n (c * 2 ^ k * den) ≤ distance n (q * 2 ^ j * den)
  least q j h =
      elim (side j k) [
        | inl l ↦ le_trans (nearest-multiple (2 ^ 23)) (farther (q * 2 ^ j * den) (2 ^ 23 * 2 ^ k * den) n (small q j h l) (reaches j l))
        | inr g ↦ subst (λ (x : ℕ). distance n (c * 2 ^ k * den) ≤ distance n (x * den)) (mul_assoc q (2 ^ (j - k)) (2 ^ k) ∙ ap (λ (x : ℕ). q * x) (sym (pow-add 2 (j - k) k) ∙ ap (λ (x : ℕ). 2 ^ x) (back g))) (nearest-multiple (q * 2 ^ (j - k)))
      ]
    where
      back : k ≤ j → j - k + k ≡ j
      back g = omega arith

  even : distance n (c * 2 ^ k * den) * 2 ≡ 2 ^ k * den → c % 2 ≡ 0
  unfolding Good
  even h = (good n (den * 2 ^ k) room).1 (rw (as-whole c, mul_comm (2 ^ k) den) at h)

  pub nearest-units : NearestUnits num den c k
  nearest-units = record { least = least; even = even }

-- ---- the theorem
unfoldable pub kept_digits : ℕ → ℕ → ℕ
kept_digits num den = closest (num * 2 ^ 149) (den * 2 ^ (size (num * 2 ^ 149 / den) - 24))

unfoldable pub dropped_digits : ℕ → ℕ → ℕ
dropped_digits num den = size (num * 2 ^ 149 / den) - 24

module _ (w a b : ℕ) where
  pub decimal-nearest : NearestUnits (w * 10 ^ a) (10 ^ b) (kept_digits (w * 10 ^ a) (10 ^ b)) (dropped_digits (w * 10 ^ a) (10 ^ b))
  unfolding kept_digits dropped_digits
  decimal-nearest = nearest-units (w * 10 ^ a) (10 ^ b) (one-le-pow b 10 (omega arith))

  -- below 2^128, 2^277 units, the decimal is read as so many units
  pub decimal-value : kept_digits (w * 10 ^ a) (10 ^ b) * 2 ^ dropped_digits (w * 10 ^ a) (10 ^ b) < 2 ^ 277
      → HasValue (decimal_of false w a b) false (kept_digits (w * 10 ^ a) (10 ^ b) * 2 ^ dropped_digits (w * 10 ^ a) (10 ^ b)) (2 ^ 149)
  unfolding decimal_of kept_digits dropped_digits
  decimal-value h = rw (round_is binary32 false (w * 10 ^ a) (10 ^ b)) (units_val binary32 false (kept_digits (w * 10 ^ a) (10 ^ b)) (dropped_digits (w * 10 ^ a) (10 ^ b)) h)

  -- and from there on as an infinity
  pub decimal-infinite : (s : Bool) → 2 ^ 277 ≤ kept_digits (w * 10 ^ a) (10 ^ b) * 2 ^ dropped_digits (w * 10 ^ a) (10 ^ b) → decimal_of s w a b ≡ inf s
  unfolding decimal_of kept_digits dropped_digits
  decimal-infinite s h = round_is binary32 s (w * 10 ^ a) (10 ^ b) ∙ units-over s (kept_digits (w * 10 ^ a) (10 ^ b)) (dropped_digits (w * 10 ^ a) (10 ^ b)) h
