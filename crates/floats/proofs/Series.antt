-- S(w) is the alternating sum of its terms: for a w of at most 2 ^ 30 no subtraction is cut off at 0 (`alternating`), and S(w) is at most w (`series-le`).
-- The terms fall, so before an even term there is room for it below w, and before an odd one the sum holds at least that term (`Room`).
use Rattle.std.proofs.Common.{◌≡◌, ℕ, zero, suc, ◌+◌, ◌-◌, ◌*◌, ◌/◌, ◌%◌, ◌^◌, ◌<◌, ◌≤◌, Bool, true, false, cond, not, eqb, ◌⊎◌, sym, refl, ap, ◌∙◌, subst, inl, inr, le_trans, le_refl, add-zero, add-suc, mod-lt, zero-lt-suc, mul_comm, eq-zero-or-pos, mul-le-mul, mul-le-mul_left, zero-mul, add-one, arith, eq-eqb, ne_eqb}
use native.Mathlib.Nat.{zero-div, div-le_of_le-mul}
use lib.Ieee.Nearest.{div_mono}
use Rattle.floats.specs.Angle.{with_term, series_from, term_count, series, power, nonzero_powers, series_sum}

-- ---- the terms

even : ℕ → Bool
even k = eqb (k % 2) 0

-- the term k
term : ℕ → ℕ → ℕ
term w k = power w k / (2 * k + 1)

-- the sum of the even ones, and of the odd ones, among the first n terms
pub evens : ℕ → ℕ → ℕ
evens w zero = 0
evens w (suc k) = evens w k + cond (even k) (term w k) 0

pub odds : ℕ → ℕ → ℕ
odds w zero = 0
odds w (suc k) = odds w k + cond (even k) 0 (term w k)

-- ---- room for the next term t, at an even index and at an odd one
abbrev pub Room : Bool → ℕ → ℕ → ℕ → Type 0
Room true t sum w = sum + t ≤ w
Room false t sum w = (t ≤ sum) × (sum ≤ w)

abbrev pub Safe : ℕ → ℕ → ℕ → ℕ → Type 0
Safe w k p sum = Room (eqb (k % 2) 0) (p / (2 * k + 1)) sum w

room_next : (b : Bool) (t t' sum w : ℕ) → t' ≤ t → Room b t sum w → Room (not b) t' (cond b (sum + t) (sum - t)) w
room_next true t t' sum w h r = omega arith
room_next false t t' sum w h r = omega arith

room-le : (b : Bool) (t sum w : ℕ) → Room b t sum w → sum ≤ w
room-le true t sum w r = omega arith
room-le false t sum w r = r.1

parity : (k : ℕ) → eqb ((k + 1) % 2) 0 ≡ not (eqb (k % 2) 0)
parity k = go (k % 2) refl
  where
    go : (r : ℕ) → k % 2 ≡ r → eqb ((k + 1) % 2) 0 ≡ not (eqb r 0)
    go zero e = let n : (k + 1) % 2 ≡ 1 = omega arith in rw n
    go (suc r) e = let n : (k + 1) % 2 ≡ 0 = omega arith in let z : r ≡ 0 = omega (arith, mod-lt k {m = 2} (zero-lt-suc 1)) in rw (n, z)

pub next_le : (p u : ℕ) → u ≤ 2 ^ 30 → p * u / 2 ^ 30 ≤ p
next_le p u h = div-le_of_le-mul (2 ^ 30) (subst (λ (x : ℕ). p * u ≤ x) (mul_comm p (2 ^ 30)) (mul-le-mul_left p h))

pub square_le : (w : ℕ) → w ≤ 2 ^ 30 → w * w / 2 ^ 30 ≤ 2 ^ 30
square_le w h = div-le_of_le-mul (2 ^ 30) (mul-le-mul h h)

term-falls : (p p' k : ℕ) → p' ≤ p → p' / (2 * (k + 1) + 1) ≤ p / (2 * k + 1)
term-falls p p' k h =
    let B : 0 < 2 * (k + 1) + 1 = omega arith in
    let D : 0 < 2 * k + 1 = omega arith in
    let l : 2 * k + 1 ≤ 2 * (k + 1) + 1 = omega arith in
    div_mono p' (2 * (k + 1) + 1) p (2 * k + 1) B D (mul-le-mul h l)

pub safe-first : (w : ℕ) → Safe w 0 w 0
safe-first w = omega arith

pub safe-next : (w k u p sum : ℕ) → u ≤ 2 ^ 30 → Safe w k p sum → Safe w (k + 1) (p * u / 2 ^ 30) (with_term k p sum)
safe-next w k u p sum h r =
    subst (λ (b : Bool). Room b (p * u / 2 ^ 30 / (2 * (k + 1) + 1)) (with_term k p sum) w) (sym (parity k))
    (room_next (eqb (k % 2) 0) (p / (2 * k + 1)) (p * u / 2 ^ 30 / (2 * (k + 1) + 1)) sum w (term-falls p (p * u / 2 ^ 30) k (next_le p u h)) r)

-- at an even index the term fits below w, and is added; at an odd one the sum holds it, and it comes off
module _ (w k p sum : ℕ) where
  pub room-even : k % 2 ≡ 0 → Safe w k p sum → sum + p / (2 * k + 1) ≤ w
  room-even e r = subst (λ (b : Bool). Room b (p / (2 * k + 1)) sum w) (eq-eqb (k % 2) 0 e) r

  pub room-odd : (k % 2 ≡ 0 → ⊥) → Safe w k p sum → p / (2 * k + 1) ≤ sum
  room-odd n r = (subst (λ (b : Bool). Room b (p / (2 * k + 1)) sum w) (ne_eqb (k % 2) 0 n) r).0

pub with-even : (k p sum : ℕ) → k % 2 ≡ 0 → with_term k p sum ≡ sum + p / (2 * k + 1)
with-even k p sum e = simp (eq-eqb (k % 2) 0 e)

pub with-odd : (k p sum : ℕ) → (k % 2 ≡ 0 → ⊥) → with_term k p sum ≡ sum - p / (2 * k + 1)
with-odd k p sum n = simp (ne_eqb (k % 2) 0 n)

-- ---- the whole sum

balance : (b : Bool) (t sum o v w : ℕ) → Room b t sum w → sum + o ≡ v → cond b (sum + t) (sum - t) + (o + cond b 0 t) ≡ v + cond b t 0
balance true t sum o v w r q = omega arith
balance false t sum o v w r q = omega arith

pub power-next : (w k : ℕ) → power w (k + 1) ≡ power w k * (w * w / 2 ^ 30) / 2 ^ 30
unfolding power
power-next w k = rw add-one

balance-next : (w k sum : ℕ) → Safe w k (power w k) sum → sum + odds w k ≡ evens w k → with_term k (power w k) sum + odds w (k + 1) ≡ evens w (k + 1)
unfolding odds evens even term
balance-next w k sum r q = rw (add-one k) (balance (eqb (k % 2) 0) (power w k / (2 * k + 1)) sum (odds w k) (evens w k) w r q)

-- from a place where the sum so far is the alternating sum, it stays so
from : (left k w p sum n : ℕ) → k + left ≡ n → w ≤ 2 ^ 30 → p ≡ power w k → Safe w k p sum → sum + odds w k ≡ evens w k
    → (series_from left k (w * w / 2 ^ 30) p sum + odds w n ≡ evens w n) × (series_from left k (w * w / 2 ^ 30) p sum ≤ w)
unfolding series_from
from zero k w p sum n e h a r q =
    let i : k ≡ n = omega arith in
    (rw i at q, room-le (eqb (k % 2) 0) (p / (2 * k + 1)) sum w r)
from (suc left) k w p sum n e h a r q =
    let i : k + 1 + left ≡ n = omega arith in
    from left (k + 1) w (p * (w * w / 2 ^ 30) / 2 ^ 30) (with_term k p sum) n i h
    (ap (λ (x : ℕ). x * (w * w / 2 ^ 30) / 2 ^ 30) a ∙ sym (power-next w k))
    (safe-next w k (w * w / 2 ^ 30) p sum (square_le w h) r)
    (subst (λ (x : ℕ). with_term k x sum + odds w (k + 1) ≡ evens w (k + 1)) (sym a)
    (balance-next w k sum (subst (λ (x : ℕ). Safe w k x sum) a r) q))

whole : (w : ℕ) → w ≤ 2 ^ 30 → (series w + odds w term_count ≡ evens w term_count) × (series w ≤ w)
unfolding series power odds evens
whole w h = from term_count 0 w w 0 term_count refl h refl (safe-first w) refl

pub alternating : (w : ℕ) → w ≤ 2 ^ 30 → series w + odds w term_count ≡ evens w term_count
alternating w h = (whole w h).0

pub series-le : (w : ℕ) → w ≤ 2 ^ 30 → series w ≤ w
series-le w h = (whole w h).1

-- ---- one turn of the loop, and its end
less : (n k : ℕ) → k < n → n - k ≡ suc (n - (k + 1))
less n k h = omega arith

pub turn : (k u p sum : ℕ) → k < term_count → series_from (term_count - k) k u p sum ≡ series_from (term_count - (k + 1)) (k + 1) u (p * u / 2 ^ 30) (with_term k p sum)
unfolding series_from
turn k u p sum h = rw (less term_count k h)

pub done : (k u p sum : ℕ) → term_count ≤ k → series_from (term_count - k) k u p sum ≡ sum
unfolding series_from
done k u p sum h = let e : term_count - k ≡ 0 = omega arith in rw e

-- ---- what the loop leaves out is zero

-- once a power is zero, every later one is
zero-next : (u : ℕ) → 0 * u / 2 ^ 30 ≡ 0
zero-next u = simp (zero-mul, zero-div)

pub rest-zero : (left k u sum : ℕ) → series_from left k u 0 sum ≡ sum
unfolding series_from
rest-zero zero k u sum = refl
rest-zero (suc left) k u sum = rw (zero-next u, none k sum) (rest-zero left (k + 1) u sum)
  where
    none : (j s : ℕ) → with_term j 0 s ≡ s
    none j s = go (eqb (j % 2) 0)
      where
        go : (b : Bool) → cond b (s + 0 / (2 * j + 1)) (s - 0 / (2 * j + 1)) ≡ s
        go true = rw zero-div (omega arith)
        go false = rw zero-div (omega arith)

stays-zero : (w k j : ℕ) → power w k ≡ 0 → power w (k + j) ≡ 0
unfolding power
stays-zero w k zero z = rw add-zero z
stays-zero w k (suc j) z = rw (add-suc, stays-zero w k j z) (zero-next (w * w / 2 ^ 30))

-- the count does not grow there
pub count-rest : (w k j : ℕ) → power w k ≡ 0 → nonzero_powers w (k + j) ≡ nonzero_powers w k
unfolding nonzero_powers
count-rest w k zero z = rw add-zero
count-rest w k (suc j) z = rw (add-suc, stays-zero w k j z) (rw add-zero (count-rest w k j z))

-- and before it grows with each power
pub count_next : (w k : ℕ) → (power w k ≡ 0 → ⊥) → nonzero_powers w k ≡ k → nonzero_powers w (k + 1) ≡ k + 1
unfolding nonzero_powers
count_next w k n e = rw (add-one k, ne_eqb (power w k) 0 n, e, add-one k)

-- So every power from the count on is zero, among p0 to p14.
pub left_out : (w k : ℕ) → k < term_count → nonzero_powers w term_count ≤ k → power w k ≡ 0
left_out w k h c = go (eq-zero-or-pos (power w k))
  where
    -- as long as powers are not zero, the count grows with the index
    counted : (j : ℕ) → j ≤ k → (power w k ≡ 0 → ⊥) → nonzero_powers w j ≡ j
    counted zero l n = unfold nonzero_powers in refl
    counted (suc j) l n =
        let i : j + (k - j) ≡ k = omega arith in
        let m : power w j ≡ 0 → ⊥ = λ z. n (rw i at (stays-zero w j (k - j) z)) in
        rw add-one at (count_next w j m (counted j (omega arith) n))

    one_more : (n : ℕ) → nonzero_powers w n ≤ nonzero_powers w (suc n)
    one_more n = unfold nonzero_powers in omega arith

    grows : (n j : ℕ) → nonzero_powers w n ≤ nonzero_powers w (n + j)
    grows n zero = rw add-zero (le_refl (nonzero_powers w n))
    grows n (suc j) = rw add-suc (le_trans (grows n j) (one_more (n + j)))

    go : (power w k ≡ 0) ⊎ (0 < power w k) → power w k ≡ 0
    go (inl z) = z
    go (inr p) =
        let n : power w k ≡ 0 → ⊥ = λ z. omega arith in
        let a : nonzero_powers w (k + 1) ≡ k + 1 = count_next w k n (counted k (le_refl k) n) in
        let i : k + 1 + (term_count - (k + 1)) ≡ term_count = omega arith in
        absurd (omega (arith, rw i at (grows (k + 1) (term_count - (k + 1)))))

-- ---- the end of the loop

module _ (w k p sum : ℕ) where
  abbrev pub so_far : Type 0
  so_far = series_from (term_count - k) k (w * w / 2 ^ 30) p sum ≡ series_from term_count 0 (w * w / 2 ^ 30) w 0

  -- at a zero power
  pub stopped : k ≤ term_count → p ≡ 0 → so_far → p ≡ power w k → nonzero_powers w k ≡ k → record { sum = sum; terms = k } ≡ series_sum w
  unfolding series series_sum
  stopped h z s e c =
      let i : k + (term_count - k) ≡ term_count = omega arith in
      let a : sum ≡ series w = sym (rest-zero (term_count - k) k (w * w / 2 ^ 30) sum) ∙ ap (λ (x : ℕ). series_from (term_count - k) k (w * w / 2 ^ 30) x sum) (sym z) ∙ s in
      let b : k ≡ nonzero_powers w term_count = sym c ∙ sym (count-rest w k (term_count - k) (sym e ∙ z)) ∙ ap (nonzero_powers w) i in
      cc

  -- after the last term
  pub finished : k ≤ term_count → term_count ≤ k → so_far → nonzero_powers w k ≡ k → record { sum = sum; terms = k } ≡ series_sum w
  unfolding series series_sum
  finished h l s c =
      let i : k ≡ term_count = omega arith in
      let a : sum ≡ series w = sym (done k (w * w / 2 ^ 30) p sum l) ∙ s in
      let b : k ≡ nonzero_powers w term_count = sym c ∙ ap (nonzero_powers w) i in
      cc
