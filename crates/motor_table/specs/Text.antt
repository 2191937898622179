-- Writing a table (request R-6): records in as numbers, one spelling out, with no header, no quotes, no leading zeros or plus, a minus only
-- before a nonzero number, and CRLF after each record.
use Rattle.std.specs.Prelude.{ℕ, zero, suc, ◌+◌, ◌-◌, ◌*◌, ◌/◌, ◌^◌, Bool, true, false, cond, ◌&&◌, List, [], ◌∷◌, ◌++◌, length, nat_le, nat_lt, slice_index, Result, Ok, Err, Some, None}
use Rattle.texts.specs.Ascii.{COMMA, CR, LF, MINUS}
use Rattle.texts.specs.Digits.{decimal}
use Rattle.texts.specs.Written.{written}
use Rattle.motor_table.specs.WholeNumber.{largest_size}
use Rattle.motor_table.specs.Records.{is_present}
use Rattle.motor_table.specs.Tables.{Table, most_records, after}
use Rattle.motor_table.specs.Tables.Table.{granted, refused}
use Rattle.motor_table.specs.declared.whole_number.Number.{Number}
use Rattle.motor_table.specs.declared.record.Entry.{Entry}
use Rattle.std.specs.declared.option.Option.{Option}
use Rattle.motor_table.specs.declared.refusal.TableRefusal.{TableRefusal}
use Rattle.motor_table.specs.declared.refusal.TableRefusal.TheVariants.{Broken, NotThreeNumbers, Absent}

-- ---- the spelling

unfoldable pub number_text : Number → List ℕ
number_text n = cond n.negative (MINUS ∷ decimal n.size) (decimal n.size)

abbrev pub field_text : Number → List ℕ
field_text n = number_text n ++ COMMA ∷ []

abbrev pub last_field_text : Number → List ℕ
last_field_text n = number_text n ++ CR ∷ LF ∷ []

unfoldable pub record_text : Entry → List ℕ
record_text e = field_text e.joint ++ (field_text e.axis ++ last_field_text e.thousandths)

unfoldable pub text_of : List Entry → List ℕ
text_of [] = []
text_of (e ∷ es) = record_text e ++ text_of es

-- ---- the records, three words each in two's complement

unfoldable pub word_number : ℕ → Number
word_number w = cond (nat_lt w (2 ^ 31)) (record { negative = false; size = w }) (record { negative = true; size = 2 ^ 32 - w })

unfoldable pub entry_at : List ℕ → ℕ → Entry
entry_at ws k =
    record { joint = word_number (slice_index ws (3 * k)); axis = word_number (slice_index ws (3 * k + 1)); thousandths = word_number (slice_index ws (3 * k + 2)) }

-- so many records from record k on
unfoldable pub entries_from : List ℕ → ℕ → ℕ → List Entry
entries_from ws k zero = []
entries_from ws k (suc n) = entry_at ws k ∷ entries_from ws (k + 1) n

-- a table has as many records as it has words for
abbrev pub records_in : List ℕ → ℕ
records_in ws = length ws / 3

abbrev pub entries_of : List ℕ → List Entry
entries_of ws = entries_from ws 0 (records_in ws)

-- ---- the refusals, as far as numbers can break them: 13 for the 4097th record, 14 for a number that is too large, 15 for an absent
-- joint or axis; the first faulty record decides

abbrev pub is_sized : Entry → Bool
is_sized e = nat_le e.joint.size largest_size && nat_le e.axis.size largest_size && nat_le e.thousandths.size largest_size

unfoldable pub granting : ℕ → ℕ → List Entry → Table
granting joints left [] = granted []
granting joints zero (e ∷ es) = refused Broken
granting joints (suc left) (e ∷ es) =
    cond (is_sized e) (cond (is_present joints e) (after e (granting joints left es)) (refused Absent)) (refused NotThreeNumbers)

abbrev pub table_of : ℕ → List Entry → Table
table_of joints es = granting joints most_records es

-- why it is refused, if it is
abbrev pub refusal_in : Table → Option TableRefusal
refusal_in (granted es) = None
refusal_in (refused r) = Some r

-- ---- what the writer answers and leaves

-- the text's length, where n bytes went before, or the refusal
unfoldable pub written_answer : ℕ → Table → Result ℕ TableRefusal
written_answer n (granted es) = Ok (n + length (text_of es))
written_answer n (refused r) = Err r

-- the lent bytes afterwards: with the text, or all as it was where the table is refused
unfoldable pub written_text : List ℕ → Table → List ℕ
written_text out (granted es) = written out (text_of es)
written_text out (refused r) = out
