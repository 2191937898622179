-- 32 bits in hexadecimal digits, A to F in capitals or not.
use Rattle.std.specs.Prelude.{Bool, cond, List, [], ◌∷◌, ◌++◌, ℕ, ◌+◌, ◌/◌, ◌%◌, ltb}
use Rattle.texts.specs.Ascii.{ascii}
use Rattle.texts.specs.Digits.{digit}

-- the character of a number below 16
unfoldable pub hex_digit : Bool → ℕ → ℕ
hex_digit capitals d = cond (ltb d 10) (digit d) (cond capitals 0x37 0x57 + d)

-- eight digits
abbrev pub hex_text : Bool → ℕ → List ℕ
hex_text capitals n =
    hex_digit capitals (n / 0x10000000)
    ∷ hex_digit capitals (n / 0x1000000 % 16)
    ∷ hex_digit capitals (n / 0x100000 % 16)
    ∷ hex_digit capitals (n / 0x10000 % 16)
    ∷ hex_digit capitals (n / 0x1000 % 16)
    ∷ hex_digit capitals (n / 0x100 % 16)
    ∷ hex_digit capitals (n / 0x10 % 16)
    ∷ hex_digit capitals (n % 16)
    ∷ []

unfoldable pub hex_word : Bool → ℕ → List ℕ
hex_word capitals n = ascii "0x" ++ hex_text capitals n
