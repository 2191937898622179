-- Texts and what they read as, computed over the definitions.
use mathlib.Core.Path.{◌≡◌, refl}
use mathlib.Core.Bool.{true}
use mathlib.Core.List.{[], ◌∷◌}
use Prim.Native.Nat.{ℕ}
use Rattle.texts.specs.Digits.{is_digit}
use Rattle.motor_table.specs.WholeNumber.{digits_after}
use Rattle.texts.specs.Ascii.{ascii}
use Rattle.study_reader.specs.Words.{has, same_bytes, is_blank, ends_word, run_of, line_count, next_word, is_empty, next_line, bytes_of, whole_up_to, whole_number, feeds_in, column_after, line_of, column_of, same_words}
use Rattle.study_reader.specs.Names.{name_at, first_from, find_body}
use Rattle.study_reader.specs.Keywords.{field, no_field, joint_item, meaning, field_of, item_keyword, center_angle_keyword}
use Rattle.study_reader.specs.declared.words.Word.{Word}
use Rattle.std.specs.Prelude.{Some, None}

abbrev word : ℕ → ℕ → Word
word b e = record { start = b; end = e }

-- blanks, a word, a comment right after it
pub a_word : next_word (ascii " \tlock#y") 0 ≡ word 2 6
unfolding next_word run_of is_blank ends_word has
a_word = refl

-- a comment alone holds no word, and nor does the end of a line
pub no_word : is_empty (next_word (ascii " # lock") 0) ≡ true
unfolding is_empty next_word run_of is_blank ends_word has
no_word = refl

pub no_more : is_empty (next_word (ascii "end \r\nload") 3) ≡ true
unfolding is_empty next_word run_of is_blank ends_word has
no_more = refl

pub next-line : next_line (ascii "end \r\nload") 3 ≡ 6
unfolding next_line line_count
next-line = refl

pub line-column : (line_of (ascii "a\nbc\nd") 3 ≡ 2) × (column_of (ascii "a\nbc\nd") 3 ≡ 2)
unfolding line_of column_of feeds_in column_after
line-column = (refl, refl)

-- the largest whole number, and the next
pub largest : whole_number (ascii "04294967289") ≡ Some 4294967289
unfolding whole_number whole_up_to digits_after is_digit
largest = refl

pub too_large : whole_number (ascii "4294967290") ≡ None
unfolding whole_number whole_up_to digits_after is_digit
too_large = refl

pub signed : whole_number (ascii "+1") ≡ None
unfolding whole_number whole_up_to digits_after is_digit
signed = refl

-- of two bodies with one name the first; none where the name is longer
pub first_body : find_body (ascii "leg leg legs") (0 ∷ 3 ∷ 4 ∷ 7 ∷ []) 2 (word 4 7) ≡ Some 0
unfolding find_body first_from same_words same_bytes bytes_of name_at
first_body = refl

pub no_body : find_body (ascii "leg leg legs") (0 ∷ 3 ∷ 4 ∷ 7 ∷ []) 2 (word 8 12) ≡ None
unfolding find_body first_from same_words same_bytes bytes_of name_at
no_body = refl

-- a word that starts with another
pub damping-ratio : field_of (ascii "damping_ratio") (word 0 13) ≡ field joint_item 36 1 0
unfolding meaning same_bytes bytes_of
damping-ratio = refl

pub center-angle : item_keyword (ascii "center_angle") (word 0 12) ≡ center_angle_keyword
unfolding meaning same_bytes bytes_of
center-angle = refl

pub no-field : field_of (ascii "dampin") (word 0 6) ≡ no_field
unfolding meaning same_bytes bytes_of
no-field = refl
