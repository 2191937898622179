-- The word that spells a number's bits: 0x and eight hexadecimal digits, A to F in capitals.
use Rattle.std.specs.Prelude.{true, List, ℕ}
use Rattle.texts.specs.Hex.{hex_word}

unfoldable pub bits_text : ℕ → List ℕ
bits_text b = hex_word true b
