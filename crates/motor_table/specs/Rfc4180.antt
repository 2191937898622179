-- RFC 4180's grammar (its section 2), for a file with no header:
--
--   file = record *(CRLF record) [CRLF]
--   record = field *(COMMA field)
--   field = (escaped / non_escaped)
--   escaped = DQUOTE *(TEXTDATA / COMMA / CR / LF / 2DQUOTE) DQUOTE
--   non_escaped = *TEXTDATA
--   COMMA = %x2C   CR = %x0D   DQUOTE = %x22   LF = %x0A   CRLF = CR LF
--   TEXTDATA = %x20-21 / %x23-2B / %x2D-7E
--
-- `record_from` reads one record, a byte at a time: the grammar is regular, and each `Place` is a place in its rules.
use Rattle.std.specs.Prelude.{ℕ, Bool, true, false, cond, ◌&&◌, ◌||◌, List, [], ◌∷◌, ◌==◌, nat_le}
use Rattle.texts.specs.Ascii.{COMMA, CR, DQUOTE, LF}
use Rattle.motor_table.specs.declared.rfc4180.Place.{Place}
use Rattle.motor_table.specs.declared.rfc4180.Place.TheVariants.{FieldStart, NonEscaped, Escaped, QuoteSeen, CrSeen}
use Rattle.motor_table.specs.declared.rfc4180.Move.{Move}
use Rattle.motor_table.specs.declared.rfc4180.Move.TheVariants.{Take, Skip, NextField, End, Fault}

unfoldable pub is_textdata : ℕ → Bool
is_textdata b = (nat_le 0x20 b && nat_le b 0x21) || (nat_le 0x23 b && nat_le b 0x2b) || (nat_le 0x2d b && nat_le b 0x7e)

-- right after a field: a comma and the next field, or the CRLF
abbrev pub separator_move : ℕ → Move
separator_move b = cond (b == COMMA) NextField (cond (b == CR) (Skip CrSeen) Fault)

-- non_escaped = *TEXTDATA
abbrev pub non_escaped_move : ℕ → Move
non_escaped_move b = cond (is_textdata b) (Take NonEscaped) (separator_move b)

-- *(TEXTDATA / COMMA / CR / LF / 2DQUOTE) DQUOTE
abbrev pub escaped_move : ℕ → Move
escaped_move b = cond (b == DQUOTE) (Skip QuoteSeen) (cond (is_textdata b || b == COMMA || b == CR || b == LF) (Take Escaped) Fault)

-- what a byte does at a place: it is the field's next byte, or no byte of a field, or a comma, or the end of the record's CRLF
unfoldable pub move_at : Place → ℕ → Move
move_at FieldStart b = cond (b == DQUOTE) (Skip Escaped) (non_escaped_move b)
move_at NonEscaped b = non_escaped_move b
move_at Escaped b = escaped_move b
move_at QuoteSeen b = cond (b == DQUOTE) (Take Escaped) (separator_move b)
move_at CrSeen b = cond (b == LF) End Fault

-- where the bytes may end: not inside quotes, and not between CR and LF
unfoldable pub may_end : Place → Bool
may_end FieldStart = true
may_end NonEscaped = true
may_end Escaped = false
may_end QuoteSeen = true
may_end CrSeen = false

-- What reading one record gives: its first field and its further ones, each as its bytes, and the bytes that follow the
-- record and its CRLF; or no record.
pub data Parsed : Type 0 where
  fields : List ℕ → List (List ℕ) → List ℕ → Parsed
  broken : Parsed

-- b is the first byte of the first field
unfoldable pub with_byte : ℕ → Parsed → Parsed
with_byte b (fields f fs rest) = fields (b ∷ f) fs rest
with_byte b broken = broken

-- a field ends here, and these are the further ones
unfoldable pub with_field : Parsed → Parsed
with_field (fields f fs rest) = fields [] (f ∷ fs) rest
with_field broken = broken

-- what is left of a record from a place on
unfoldable pub record_from : Place → List ℕ → Parsed
record_from p [] = cond (may_end p) (fields [] [] []) broken
record_from p (b ∷ bs) =
    elim (move_at p b) [
      | Take q ↦ with_byte b (record_from q bs)
      | Skip q ↦ record_from q bs
      | NextField ↦ with_field (record_from FieldStart bs)
      | End ↦ fields [] [] bs
      | Fault ↦ broken
    ]

-- the record that bytes begin with
abbrev pub first_record : List ℕ → Parsed
first_record bs = record_from FieldStart bs
