-- The table of sines; each law is computed over all entries together. An entry is below the next one (`rises`).
-- The squares of entries k and 4096 − k add up to within 2 ^ -24 of 1 (`squares`). The bound on the number of terms is never met: with more terms every entry is the same (`ends`).
-- Nothing is cut off at 0 where a term is taken off: an entry and all of its terms taken off are the terms added (`alternates`).
-- Entry k of the list is `sine_entry k` (`entry-is`). Assumes nothing.
use Rattle.std.proofs.Common.{◌≡◌, ℕ, zero, suc, ◌+◌, ◌-◌, ◌*◌, ◌/◌, ◌^◌, ◌<◌, ◌≤◌, Bool, true, false, cond, ◌&&◌, ◌||◌, T, eqb, ltb, leb, get_or, sym, refl, ap, ◌∙◌, subst, inl, inr, le_of_suc-le-suc, not-suc-le-zero, add-zero, add-suc, mul_comm, suc-add, eq-or-lt_of_le, mul-le-mul_left, zero-add, arith, eqb→eq, ltb→lt, leb→le}
use native.Mathlib.Nat.{div-le_of_le-mul}
use lib.Ieee.Fits.{and_l, and_r}
use Rattle.floats.specs.Angle.{quarter_turn}
use Rattle.floats.specs.Sines.{quarter_parts, next_term, add_term, sum_from, most_terms, sine_of, sine_entry, listed, sines}

-- ---- a test at every number below n

unfoldable passes : (ℕ → Bool) → ℕ → Bool
passes f zero = true
passes f (suc n) = f n && passes f n

passed : (f : ℕ → Bool) (n : ℕ) → T (passes f n) → (k : ℕ) → k < n → T (f k)
unfolding passes
passed f zero t k h = absurd (not-suc-le-zero h)
passed f (suc n) t k h =
    elim (eq-or-lt_of_le (le_of_suc-le-suc h)) [
      | inl e ↦ subst (λ (x : ℕ). T (f x)) (sym e) (and_l (f n) (passes f n) t)
      | inr l ↦ passed f n (and_r (f n) (passes f n) t) k l
    ]

-- ---- the entries rise

abbrev rise : ℕ → Bool
rise k = ltb (sine_entry k) (sine_entry (k + 1))

all-rise : T (passes rise quarter_parts)
unfolding passes sine_entry sine_of sum_from
all-rise = tt

pub rises : (k : ℕ) → k < quarter_parts → sine_entry k < sine_entry (k + 1)
rises k h = ltb→lt (sine_entry k) (sine_entry (k + 1)) (passed rise quarter_parts all-rise k h)

-- ---- the squares of entries k and 4096 − k

abbrev two-squares : ℕ → ℕ → ℕ
two-squares a b = a * a + b * b

abbrev squared : ℕ → ℕ
squared k = two-squares (sine_entry k) (sine_entry (quarter_parts - k))

abbrev near-one : ℕ → Bool
near-one n = leb n (2 ^ 60 + 2 ^ 36) && leb (2 ^ 60) (n + 2 ^ 36)

abbrev near : ℕ → Bool
near k = near-one (squared k)

all_near : T (passes near (suc quarter_parts))
unfolding passes sine_entry sine_of sum_from
all_near = tt

pub squares : (k : ℕ) → k ≤ quarter_parts → (squared k ≤ 2 ^ 60 + 2 ^ 36) × (2 ^ 60 ≤ squared k + 2 ^ 36)
squares k h =
    let t = passed near (suc quarter_parts) all_near k (omega arith) in
    let a = leb (squared k) (2 ^ 60 + 2 ^ 36) in
    let b = leb (2 ^ 60) (squared k + 2 ^ 36) in
    (leb→le (squared k) (2 ^ 60 + 2 ^ 36) (and_l a b t), leb→le (2 ^ 60) (squared k + 2 ^ 36) (and_r a b t))

-- ---- the sum ends at a term that is zero

-- among the terms from n on, `left` at most, one is zero
unfoldable stops : ℕ → ℕ → ℕ → ℕ → Bool
stops zero u n term = eqb term 0
stops (suc left) u n term = eqb term 0 || stops left u (n + 1) (next_term u n term)

ended : (more u n sum : ℕ) → sum_from more u n 0 sum ≡ sum
unfolding sum_from
ended zero u n sum = refl
ended (suc more) u n sum = refl

more-terms : (left more u n term sum : ℕ) → T (stops left u n term) → sum_from (left + more) u n term sum ≡ sum_from left u n term sum
unfolding sum_from stops
more-terms zero more u n term sum t = rw (zero-add more, eqb→eq term 0 t) (ended more u n sum)
more-terms (suc left) more u n term sum t = rw suc-add (go (eqb term 0) t (more-terms left more u (n + 1) (next_term u n term) (add_term n term sum)))
  where
    go : (b : Bool) → T (b || stops left u (n + 1) (next_term u n term))
        → (T (stops left u (n + 1) (next_term u n term)) → sum_from (left + more) u (n + 1) (next_term u n term) (add_term n term sum) ≡ sum_from left u (n + 1) (next_term u n term) (add_term n term sum))
        → cond b sum (sum_from (left + more) u (n + 1) (next_term u n term) (add_term n term sum)) ≡ cond b sum (sum_from left u (n + 1) (next_term u n term) (add_term n term sum))
    go true s same = refl
    go false s same = same s

-- h and u of entry k
abbrev start : ℕ → ℕ
start k = k * quarter_turn / quarter_parts

abbrev square : ℕ → ℕ
square k = start k * start k / 2 ^ 30

abbrev stop : ℕ → Bool
stop k = stops most_terms (square k) 0 (start k)

all-stop : T (passes stop (suc quarter_parts))
unfolding passes stops
all-stop = tt

pub ends : (k : ℕ) → k ≤ quarter_parts → (more : ℕ) → sum_from (most_terms + more) (square k) 0 (start k) 0 ≡ sine_entry k
unfolding sine_entry sine_of
ends k h more = more-terms most_terms more (square k) 0 (start k) 0 (passed stop (suc quarter_parts) all-stop k (omega arith))

-- ---- the sum alternates

-- every other term of those from n on, with the first or without it
unfoldable pub every-other : Bool → ℕ → ℕ → ℕ → ℕ → ℕ
every-other first zero u n term = 0
every-other true (suc left) u n term = term + every-other false left u (n + 1) (next_term u n term)
every-other false (suc left) u n term = every-other true left u (n + 1) (next_term u n term)

-- terms 0, 2, 4 and so on of entry k; and terms 1, 3, 5 and so on
abbrev added : ℕ → ℕ
added k = every-other true most_terms (square k) 0 (start k)

abbrev taken-off : ℕ → ℕ
taken-off k = every-other false most_terms (square k) 0 (start k)

abbrev balance : ℕ → Bool
balance k = eqb (sine_entry k + taken-off k) (added k)

all-balance : T (passes balance (suc quarter_parts))
unfolding passes every-other sine_entry sine_of sum_from
all-balance = tt

pub alternates : (k : ℕ) → k ≤ quarter_parts → sine_entry k + taken-off k ≡ added k
alternates k h = eqb→eq (sine_entry k + taken-off k) (added k) (passed balance (suc quarter_parts) all-balance k (omega arith))

-- ---- the list

from : (f : ℕ → ℕ) (n i k : ℕ) → k < n → get_or (listed f i n) k 0 ≡ f (i + k)
unfolding listed
from f zero i k h = absurd (not-suc-le-zero h)
from f (suc n) i zero h = ap f (sym (add-zero i))
from f (suc n) i (suc k) h = from f n (suc i) k (le_of_suc-le-suc h) ∙ ap f (suc-add i k ∙ sym (add-suc i k))

pub entry-is : (k : ℕ) → k ≤ quarter_parts → get_or sines k 0 ≡ sine_entry k
unfolding sines
entry-is k h = from sine_entry (suc quarter_parts) 0 k (omega arith) ∙ ap sine_entry (zero-add k)

-- ---- the line between two entries

-- it rises by no more than the second is above the first
pub line-le : (d rest : ℕ) → rest ≤ quarter_turn → d * rest / quarter_turn ≤ d
line-le d rest h = div-le_of_le-mul quarter_turn (subst (λ (x : ℕ). d * rest ≤ x) (mul_comm d quarter_turn) (mul-le-mul_left d h))
