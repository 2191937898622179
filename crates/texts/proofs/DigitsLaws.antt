-- The digits of a number as division gives them, and how many there are at most.
use mathlib.Core.Path.{◌≡◌}
use mathlib.Core.Bool.{Bool, true, false}
use mathlib.Core.List.{List, [], ◌∷◌}
use Prim.Native.Nat.{ℕ, zero, suc, ◌+◌, ◌*◌, ◌/◌, ◌%◌, ◌≤◌}
use native.Mathlib.Nat.{div-add-mod'}
use native.Mathlib.Omega.{arith}
use lib.Dec.{ltb}
use lib.ListN.{length}
use Rattle.texts.specs.Digits.{digit, decimal_onto, decimal}

pub tenth : (n : ℕ) → (n / 10) * 10 + n % 10 ≡ n
tenth n = div-add-mod' n 10

-- at most a digit a step
onto-short : (steps n : ℕ) (text : List ℕ) → length (decimal_onto steps n text) ≤ length text + steps + 1
unfolding decimal_onto
onto-short zero n text = omega arith
onto-short (suc k) n text = go (ltb n 10) (onto-short k (n / 10) (digit (n % 10) ∷ text))
  where
    go : (t : Bool) → length (decimal_onto k (n / 10) (digit (n % 10) ∷ text)) ≤ length (digit (n % 10) ∷ text) + k + 1
        → length {A = ℕ} (elim t [ true ↦ digit n ∷ text | false ↦ decimal_onto k (n / 10) (digit (n % 10) ∷ text) ]) ≤ length text + suc k + 1
    go true ih = omega arith
    go false ih = omega arith

pub decimal-short : (n : ℕ) → length (decimal n) ≤ n + 1
unfolding decimal
decimal-short n = omega (arith, onto-short n n [])
