-- How many bodies and joints there can be, and where a joint's second body is the world: in terms of what the program holds at hand.
use Rattle.std.proofs.Common.{◌≡◌, ℕ, ◌+◌, ◌*◌, ◌%◌, ◌≤◌, arith, eq-eqb, ne_eqb}
use Rattle.model.specs.Store.{world}
use Rattle.seeded.specs.Draws.{draw}
use Rattle.seeded.specs.Seeded.{bodies_of, joints_of, first_of, second_of}

pub few_bodies : (seed : ℕ) {n : ℕ} → n ≡ bodies_of seed → (1 ≤ n) × (n ≤ 8)
unfolding bodies_of
few_bodies seed e = (omega arith, omega arith)

pub few_joints : (seed : ℕ) {n : ℕ} → n ≡ joints_of seed → n ≤ 8
unfolding joints_of
few_joints seed e = omega arith

module _ (seed j : ℕ) {n d : ℕ} (bodies : n ≡ bodies_of seed) (drawn : d ≡ draw seed (2 + 6 * j + 5)) where
  pub second-last : d % (n + 1) ≡ n → world ≡ second_of seed j
  unfolding second_of
  second-last e =
      let q : draw seed (2 + 6 * j + 5) % (bodies_of seed + 1) ≡ bodies_of seed = cc in
      simp (eq-eqb _ _ q)

  module _ (less : d % (n + 1) ≡ n → ⊥) {f : ℕ} (first : f ≡ first_of seed j) where
    other : draw seed (2 + 6 * j + 5) % (bodies_of seed + 1) ≡ bodies_of seed → ⊥
    other e = less (cc)

    pub second-first : d % (n + 1) ≡ f → world ≡ second_of seed j
    unfolding second_of
    second-first e =
        let q : draw seed (2 + 6 * j + 5) % (bodies_of seed + 1) ≡ first_of seed j = cc in
        simp (ne_eqb _ _ other, eq-eqb _ _ q)

    pub second-other : (d % (n + 1) ≡ f → ⊥) → d % (n + 1) ≡ second_of seed j
    unfolding second_of
    second-other apart =
        let q : draw seed (2 + 6 * j + 5) % (bodies_of seed + 1) ≡ first_of seed j → ⊥ = λ e. apart (cc) in
        simp (ne_eqb _ _ other, ne_eqb _ _ q) (cc)
