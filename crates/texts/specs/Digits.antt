-- Numbers in decimal digits.
use Rattle.std.specs.Prelude.{Bool, true, false, ◌&&◌, List, [], ◌∷◌, ℕ, zero, suc, ◌+◌, ◌/◌, ◌%◌, leb, ltb}

-- the character of a number below 10
abbrev pub digit : ℕ → ℕ
digit d = 0x30 + d

unfoldable pub is_digit : ℕ → Bool
is_digit b = leb 0x30 b && leb b 0x39

-- the digits of n in front of a text, in at most `steps` divisions by 10
unfoldable pub decimal_onto : ℕ → ℕ → List ℕ → List ℕ
decimal_onto zero n text = digit n ∷ text
decimal_onto (suc steps) n text =
    elim (ltb n 10) [ true ↦ digit n ∷ text | false ↦ decimal_onto steps (n / 10) (digit (n % 10) ∷ text) ]

-- n divisions are more than enough
unfoldable pub decimal : ℕ → List ℕ
decimal n = decimal_onto n n []
