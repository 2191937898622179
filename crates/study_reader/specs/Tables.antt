-- A table of words as a text, as the program holds its tables: a line a word, and after the word the numbers that it means.
use Rattle.std.specs.Option.{unwrap_or}
use Rattle.std.specs.Prelude.{cond, List, ℕ, zero, suc, ltb, length}
use Rattle.study_reader.specs.Words.{same_bytes, next_word, next_line, bytes_of, whole_of}
use Rattle.study_reader.specs.Keywords.{field}
use Rattle.study_reader.specs.declared.fields.Field.{Field}

-- of so many lines from a place on, the first that starts with these bytes: where its first word ends; the end of the table where none does
unfoldable pub word_end : ℕ → List ℕ → List ℕ → ℕ → ℕ
word_end zero table bytes at = length table
word_end (suc n) table bytes at =
    cond (ltb at (length table))
    (cond (same_bytes bytes (bytes_of table (next_word table at))) (next_word table at).end (word_end n table bytes (next_line table at)))
    (length table)

-- the same of all lines
unfoldable pub end_in : List ℕ → List ℕ → ℕ
end_in table bytes = word_end (length table) table bytes 0

-- a number, and the other where there is none
unfoldable pub number_after : List ℕ → ℕ → ℕ → ℕ
number_after table other at = unwrap_or (whole_of table (next_word table at)) other

abbrev pub past_word : List ℕ → ℕ → ℕ
past_word table at = (next_word table at).end

-- four numbers from a place on
unfoldable pub field_after : List ℕ → ℕ → Field
field_after table at =
    field (number_after table 0 at) (number_after table 0 (past_word table at)) (number_after table 0 (past_word table (past_word table at))) (number_after table 0 (past_word table (past_word table (past_word table at))))
