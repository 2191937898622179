-- How the program counts digits: their value up to 10^19, and where they end. Nothing here need be believed.
use Rattle.std.specs.Prelude.{cond, List, ℕ, ◌+◌, ◌^◌, ltb}
use Rattle.decimals.specs.Words.{digits_count, digits_value}
use Rattle.decimals.specs.declared.digits.Digits.{Digits}

unfoldable pub cap : ℕ → ℕ
cap v = cond (ltb v (10 ^ 19)) v (10 ^ 19)

-- the digits at the front of a text that starts at a position
abbrev pub digits_of : ℕ → ℕ → List ℕ → Digits
digits_of v at bs = record { value = cap (digits_value v bs); end = at + digits_count bs }
