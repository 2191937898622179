-- Texts as bytes. A text in quotes has a byte a character.
use Rattle.std.specs.Prelude.{ℕ, List, [] as none, ◌∷◌ as ◌then◌}
use Prim.Native.Char.{code}
use Prim.Native.String.{String, [], ◌∷◌}

abbrev pub ascii : String → List ℕ
ascii [] = none
ascii (c ∷ s) = code c then ascii s

-- ---- characters by their names

abbrev pub LF : ℕ
LF = 0x0a

abbrev pub CR : ℕ
CR = 0x0d

abbrev pub SPACE : ℕ
SPACE = 0x20

abbrev pub DQUOTE : ℕ
DQUOTE = 0x22

abbrev pub PLUS : ℕ
PLUS = 0x2b

abbrev pub COMMA : ℕ
COMMA = 0x2c

abbrev pub MINUS : ℕ
MINUS = 0x2d

abbrev pub POINT : ℕ
POINT = 0x2e
