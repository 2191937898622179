-- How the program reads a record: in one pass, with a summary of the fields in place of their bytes. Nothing here need be
-- believed: proofs/ScanLaws.antt shows that it comes to what Rfc4180, WholeNumber and Records say.
use Rattle.std.specs.Prelude.{ℕ, ◌+◌, ◌-◌, ◌*◌, Bool, false, cond, ◌&&◌, List, [], ◌∷◌, length, ◌==◌, nat_le, Result, Ok, Err}
use Rattle.motor_table.specs.Rfc4180.{move_at, may_end}
use Rattle.texts.specs.Ascii.{MINUS}
use Rattle.texts.specs.Digits.{is_digit}
use Rattle.motor_table.specs.WholeNumber.{largest_size, is_sign, number_of}
use Rattle.motor_table.specs.declared.rfc4180.Place.{Place}
use Rattle.motor_table.specs.declared.rfc4180.Move.{Move}
use Rattle.motor_table.specs.declared.whole_number.Number.{Number}
use Rattle.motor_table.specs.declared.whole_number.Spelling.{Spelling}
use Rattle.motor_table.specs.declared.whole_number.Spelling.TheVariants.{Nothing, Sign, Digits, NoNumber}
use Rattle.motor_table.specs.declared.whole_number.Field.{Field}
use Rattle.motor_table.specs.declared.record.Fields.{Fields}
use Rattle.motor_table.specs.declared.record.Scan.{Scan}
use Rattle.motor_table.specs.declared.record.Step.{Step}
use Rattle.motor_table.specs.declared.record.RecordRead.{RecordRead}
use Rattle.motor_table.specs.declared.refusal.TableRefusal.{TableRefusal}
use Rattle.motor_table.specs.declared.refusal.TableRefusal.TheVariants.{Broken, NotThreeNumbers}

abbrev pub empty_field : Field
empty_field = record { spelling = Nothing; minus = false; size = 0 }

abbrev pub no_number : Field
no_number = record { spelling = NoNumber; minus = false; size = 0 }

abbrev pub digits_field : Bool → ℕ → Field
digits_field minus n = record { spelling = Digits; minus = minus; size = n }

-- one more digit; past the largest size the number grows no more
unfoldable pub grown : Bool → ℕ → ℕ → Field
grown minus n d = cond (nat_le n largest_size) (digits_field minus (n * 10 + d)) (digits_field minus n)

unfoldable pub with_digit : Spelling → Bool → ℕ → ℕ → Field
with_digit Nothing minus n d = grown minus n d
with_digit Sign minus n d = grown minus n d
with_digit Digits minus n d = grown minus n d
with_digit NoNumber minus n d = no_number

unfoldable pub with_sign : Spelling → Bool → Field
with_sign Nothing minus = record { spelling = Sign; minus = minus; size = 0 }
with_sign Sign minus = no_number
with_sign Digits minus = no_number
with_sign NoNumber minus = no_number

unfoldable pub push_of : Field → ℕ → Field
push_of f b =
    cond (is_digit b) (with_digit f.spelling f.minus f.size (b - 0x30)) (cond (is_sign b) (with_sign f.spelling (b == MINUS)) no_number)

unfoldable pub is_digits : Spelling → ℕ → Bool
is_digits Nothing n = false
is_digits Sign n = false
is_digits Digits n = nat_le n largest_size
is_digits NoNumber n = false

abbrev pub is_number : Field → Bool
is_number f = is_digits f.spelling f.size

abbrev pub number_in : Field → Number
number_in f = number_of f.minus f.size

abbrev pub start_fields : Fields
start_fields = record { count = 0; joint = empty_field; axis = empty_field; thousandths = empty_field }

unfoldable pub close_of : Fields → Field → Fields
close_of e f =
    cond (e.count == 0) (record { count = 1; joint = f; axis = e.axis; thousandths = e.thousandths })
    (cond (e.count == 1) (record { count = 2; joint = e.joint; axis = f; thousandths = e.thousandths })
    (cond (e.count == 2) (record { count = 3; joint = e.joint; axis = e.axis; thousandths = f })
    (record { count = 4; joint = e.joint; axis = e.axis; thousandths = e.thousandths })))

unfoldable pub finish_of : Fields → ℕ → Result RecordRead TableRefusal
finish_of e next =
    cond (e.count == 3 && is_number e.joint && is_number e.axis && is_number e.thousandths)
    (Ok (record { entry = record { joint = number_in e.joint; axis = number_in e.axis; thousandths = number_in e.thousandths }; next = next }))
    (Err NotThreeNumbers)

abbrev pub start_scan : Scan
start_scan = record { place = Place.FieldStart; field = empty_field; ended = start_fields }

unfoldable pub moved_of : Scan → ℕ → Move → Step
moved_of s b (Move.Take q) = Step.Going (record { place = q; field = push_of s.field b; ended = s.ended })
moved_of s b (Move.Skip q) = Step.Going (record { place = q; field = s.field; ended = s.ended })
moved_of s b Move.NextField = Step.Going (record { place = Place.FieldStart; field = empty_field; ended = close_of s.ended s.field })
moved_of s b Move.End = Step.Ended (close_of s.ended s.field)
moved_of s b Move.Fault = Step.Fault

abbrev pub step_of : Scan → ℕ → Step
step_of s b = moved_of s b (move_at s.place b)

-- the record's end at the end of the bytes, of which there are n
unfoldable pub end_of : ℕ → Scan → Result RecordRead TableRefusal
end_of n s = cond (may_end s.place) (finish_of (close_of s.ended s.field) n) (Err Broken)

-- what is left of a record, in a text of n bytes
unfoldable pub scan_from : ℕ → Scan → List ℕ → Result RecordRead TableRefusal
scan_from n s [] = end_of n s
scan_from n s (b ∷ bs) =
    elim (step_of s b) [ Step.Going t ↦ scan_from n t bs | Step.Ended e ↦ finish_of e (n - length bs) | Step.Fault ↦ Err Broken ]
