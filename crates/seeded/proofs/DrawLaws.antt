-- The state after a turn of the loop that draws, and what it draws in the end. And the state after k draws, in one step.
use Rattle.std.proofs.Common.{◌≡◌, ℕ, zero, suc, ◌+◌, ◌*◌, ◌%◌, ◌^◌, ◌<◌, ◌≤◌, refl, ap, ◌∙◌, add-one, arith}
use Rattle.seeded.specs.Draws.{next_of, mixed_of, state_after, draw}

pub state-none : (seed : ℕ) → seed ≡ state_after seed 0
unfolding state_after
state-none seed = refl

pub state-next : (seed i : ℕ) {s r : ℕ} → s ≡ state_after seed i → r ≡ next_of s → r ≡ state_after seed (i + 1)
unfolding state_after
state-next seed i e n = simp (add-one, n, e)

pub state-drawn : (seed i k : ℕ) {s r d : ℕ} → s ≡ state_after seed i → i ≤ k → k ≤ i → r ≡ next_of s → d ≡ mixed_of r → d ≡ draw seed k
unfolding draw
state-drawn seed i k e l g n m =
    let q : i ≡ k = omega arith in
    m ∙ ap mixed_of (n ∙ ap next_of (e ∙ ap (state_after seed) q))

-- (seed + k · 2654435769) mod 2^32
pub state-sum : (seed k : ℕ) → seed < 2 ^ 32 → state_after seed k ≡ (seed + k * 2654435769) % 2 ^ 32
unfolding state_after
state-sum seed zero h = omega arith
state-sum seed (suc k) h =
    let e = state-sum seed k h in
    ap next_of e ∙ omega arith
