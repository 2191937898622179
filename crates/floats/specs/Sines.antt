-- The table of sines (document 02, R-4): 4097 entries over a quarter of a turn, in units of 2 ^ -30, by integer work.
use Rattle.std.specs.Prelude.{ℕ, zero, suc, ◌+◌, ◌-◌, ◌*◌, ◌/◌, ◌%◌, ◌^◌, cond, List, [], ◌∷◌, ◌==◌}
use Rattle.floats.specs.Angle.{quarter_turn}

-- the parts of a quarter of a turn
abbrev pub quarter_parts : ℕ
quarter_parts = 4096

-- "terms start at h, each next is floor(floor(term·u / 2 ^ 30) / ((2n + 2)(2n + 3))) for n from 0": the one after term n
abbrev pub next_term : ℕ → ℕ → ℕ → ℕ
next_term u n term = term * u / 2 ^ 30 / ((2 * n + 2) * (2 * n + 3))

-- "added with alternating signs": term 0 is added, term 1 taken off, and so on. Nothing is cut off at 0 (proofs/SinesLaws.antt).
abbrev pub add_term : ℕ → ℕ → ℕ → ℕ
add_term n term sum = cond (n % 2 == 0) (sum + term) (sum - term)

-- "until a term is zero": the sum from term n on, with at most `left` more terms; proofs/SinesLaws.antt shows that this bound is never met.
unfoldable pub sum_from : ℕ → ℕ → ℕ → ℕ → ℕ → ℕ
sum_from zero u n term sum = sum
sum_from (suc left) u n term sum = cond (term == 0) sum (sum_from left u (n + 1) (next_term u n term) (add_term n term sum))

abbrev pub most_terms : ℕ
most_terms = 16

-- the sine of h units, with u = floor(h² / 2 ^ 30)
unfoldable pub sine_of : ℕ → ℕ
sine_of h = sum_from most_terms (h * h / 2 ^ 30) 0 h 0

-- entry k, with h = floor(k·1686629713 / 4096)
unfoldable pub sine_entry : ℕ → ℕ
sine_entry k = sine_of (k * quarter_turn / quarter_parts)

-- f k, f (k + 1), and so on, n of them
unfoldable pub listed : (ℕ → ℕ) → ℕ → ℕ → List ℕ
listed f k zero = []
listed f k (suc n) = f k ∷ listed f (suc k) n

-- the whole table: entries 0 to 4096
unfoldable pub sines : List ℕ
sines = listed sine_entry 0 (quarter_parts + 1)
