-- A study's text is bytes; a place in it is the number of bytes before it. Lines end with a line feed. Blanks part the words of a line, and `#` starts
-- a comment that ends with its line.
use Rattle.std.specs.Prelude.{Bool, true, false, cond, not, ◌&&◌, ◌||◌, Option, Some, None, List, [], ◌∷◌, ℕ, suc, ◌+◌, ◌-◌, leb, eqb, take, drop, get_or}
use Rattle.std.proofs.Math.Option as math
use Rattle.std.proofs.Math.Option.{none, some}
use Rattle.motor_table.specs.WholeNumber.{digits_after}
use Rattle.texts.specs.Ascii.{ascii, LF}
use Rattle.study_reader.specs.declared.words.Word.{Word}

-- ---- bytes

-- a byte is one of these
unfoldable pub has : List ℕ → ℕ → Bool
has [] b = false
has (a ∷ rest) b = eqb b a || has rest b

unfoldable pub same_bytes : List ℕ → List ℕ → Bool
same_bytes [] [] = true
same_bytes [] (b ∷ bs) = false
same_bytes (a ∷ rest) [] = false
same_bytes (a ∷ rest) (b ∷ bs) = eqb a b && same_bytes rest bs

-- space, tab and carriage return
unfoldable pub is_blank : ℕ → Bool
is_blank b = has (ascii " \t\r") b

unfoldable pub ends_word : ℕ → Bool
ends_word b = is_blank b || has (ascii "\n#") b

-- ---- words

-- how many bytes at the front of a text pass a test
unfoldable pub run_of : (ℕ → Bool) → List ℕ → ℕ
run_of test [] = 0
run_of test (b ∷ bs) = cond (test b) (suc (run_of test bs)) 0

-- how many bytes up to the end of the line, its line feed among them
unfoldable pub line_count : List ℕ → ℕ
line_count [] = 0
line_count (b ∷ bs) = cond (eqb b LF) 1 (suc (line_count bs))

-- the first place from this one on that holds no blank, and the first that ends a word
abbrev pub after_blanks : List ℕ → ℕ → ℕ
after_blanks text at = at + run_of is_blank (drop at text)

abbrev pub after_bytes : List ℕ → ℕ → ℕ
after_bytes text at = at + run_of (λ b. not (ends_word b)) (drop at text)

-- the next word of the line; without bytes where it holds no more
unfoldable pub next_word : List ℕ → ℕ → Word
next_word text at = record { start = after_blanks text at; end = after_bytes text (after_blanks text at) }

unfoldable pub is_empty : Word → Bool
is_empty w = leb w.end w.start

-- ---- words in quotes, which may hold blanks and `#`

abbrev pub QUOTE : ℕ
QUOTE = 34

-- a quote, or the end of the line
unfoldable pub ends_quoted : ℕ → Bool
ends_quoted b = has (ascii "\"\n") b

abbrev pub after_quoted : List ℕ → ℕ → ℕ
after_quoted text at = at + run_of (λ b. not (ends_quoted b)) (drop at text)

-- a quote stands at a place; past the end of the text none does
unfoldable pub is_quote : List ℕ → ℕ → Bool
is_quote text at = eqb (get_or text at 0) QUOTE

-- the bytes up to the next quote, or the end of the line
abbrev pub quoted_word : List ℕ → ℕ → Word
quoted_word text at = record { start = at; end = after_quoted text at }

-- where the next line starts
unfoldable pub next_line : List ℕ → ℕ → ℕ
next_line text at = at + line_count (drop at text)

unfoldable pub bytes_of : List ℕ → Word → List ℕ
bytes_of text w = take (w.end - w.start) (drop w.start text)

-- a word is this text; two words are the same; a word has this byte
unfoldable pub is_word : List ℕ → Word → List ℕ → Bool
is_word text w name = same_bytes (bytes_of text w) name

unfoldable pub same_words : List ℕ → Word → Word → Bool
same_words text v w = same_bytes (bytes_of text v) (bytes_of text w)

unfoldable pub holds_byte : List ℕ → Word → ℕ → Bool
holds_byte text w b = has (bytes_of text w) b

-- ---- whole numbers

-- 4294967289 is the largest that is taken
unfoldable pub whole_up_to : math.Option ℕ → Option ℕ
whole_up_to none = None
whole_up_to (some n) = cond (leb n 4294967289) (Some n) None

-- at least one digit, and nothing else
unfoldable pub whole_number : List ℕ → Option ℕ
whole_number [] = None
whole_number (b ∷ bs) = whole_up_to (digits_after 0 (b ∷ bs))

abbrev pub whole_of : List ℕ → Word → Option ℕ
whole_of text w = whole_number (bytes_of text w)

-- ---- lines and columns, from 1

-- how many line feeds
unfoldable pub feeds_in : List ℕ → ℕ
feeds_in [] = 0
feeds_in (b ∷ bs) = cond (eqb b LF) (suc (feeds_in bs)) (feeds_in bs)

-- the column after bytes that start at a column
unfoldable pub column_after : ℕ → List ℕ → ℕ
column_after column [] = column
column_after column (b ∷ bs) = column_after (cond (eqb b LF) 1 (column + 1)) bs

-- the line and the column of a place
unfoldable pub line_of : List ℕ → ℕ → ℕ
line_of text at = 1 + feeds_in (take at text)

unfoldable pub column_of : List ℕ → ℕ → ℕ
column_of text at = column_after 1 (take at text)
