-- The numbers and words in which the exports answer.
use Rattle.std.specs.Prelude.{cond, ◌&&◌, List, ℕ, ◌+◌, ◌-◌, ◌^◌, leb, ltb, length, set, Result, Ok, Err}
use Rattle.motor_table.specs.Tables.{Table}
use Rattle.motor_table.specs.Tables.Table.{granted, refused}
use Rattle.motor_table.specs.Text.{text_of}
use Rattle.motor_table.specs.Refusals.{refusal_number}
use Rattle.motor_table.specs.declared.refusal.TableRefusal.{TableRefusal}
use Rattle.motor_table.specs.declared.whole_number.Number.{Number}
use Rattle.motor_table.specs.declared.record.Entry.{Entry}
use Rattle.motor_table.specs.declared.record.RecordRead.{RecordRead}

abbrev pub refused_number : ℕ → ℕ
refused_number k = 2 ^ 32 + k

-- how many records, or the refusal
unfoldable pub table_number : Table → ℕ
table_number (granted es) = length es
table_number (refused r) = refused_number (refusal_number r)

-- the text's length, or the refusal
unfoldable pub written_number : Table → ℕ
written_number (granted es) = length (text_of es)
written_number (refused r) = refused_number (refusal_number r)

-- two's complement
unfoldable pub number_word : Number → ℕ
number_word n = cond (n.negative && ltb 0 n.size) (2 ^ 32 - n.size) n.size

-- three words, where there is room for them
unfoldable pub words_after : List ℕ → Entry → List ℕ
words_after words e =
    cond (leb 3 (length words))
    (set (set (set words 0 (number_word e.joint)) 1 (number_word e.axis)) 2 (number_word e.thousandths))
    words

unfoldable pub next_position : Result RecordRead TableRefusal → ℕ
next_position (Ok read) = read.next
next_position (Err r) = 0

unfoldable pub words_read : List ℕ → Result RecordRead TableRefusal → List ℕ
words_read words (Ok read) = words_after words read.entry
words_read words (Err r) = words
