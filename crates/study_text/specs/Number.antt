-- A number of a study's table: millionths by the micro report, or the number itself, at the right of a column.
use Rattle.std.specs.Prelude.{ℕ, suc, ◌-◌, Bool, true, false, cond, List, [], ◌∷◌, ◌++◌, ℤ, pos, negsuc, Float, length, replicate}
use Rattle.std.specs.Float.{nan, inf, fin}
use Rattle.texts.specs.Ascii.{ascii, SPACE}
use Rattle.floats.specs.MicroReport.{micro_report_of}
use Rattle.floats.specs.declared.micro_report.MicroReport.{MicroReport}
use Rattle.floats.specs.declared.micro_report.MicroReport.TheVariants.{Whole, Over, Nan}
use Rattle.decimals.specs.Spelled.{spelled_text}
use Rattle.motor_table.specs.Text.{number_text}
use Rattle.motor_table.specs.declared.whole_number.Number.{Number}

abbrev pub blanks : ℕ → List ℕ
blanks n = replicate n SPACE

-- a text at the left or at the right of w bytes; a longer text is not cut
abbrev pub filled : ℕ → List ℕ → List ℕ
filled w text = text ++ blanks (w - length text)

abbrev pub at_right : ℕ → List ℕ → List ℕ
at_right w text = blanks (w - length text) ++ text

-- ---- millionths

-- a whole number's sign and size
unfoldable pub signed : ℤ → Number
signed (pos n) = record { negative = false; size = n }
signed (negsuc n) = record { negative = true; size = suc n }

-- what the report calls Over
unfoldable pub over_text : Float → List ℕ
over_text (inf true) = ascii "-inf"
over_text (inf false) = ascii "inf"
over_text (fin s m e) = ascii "over"
over_text nan = ascii "over"

-- a minus before a negative number, and its digits; or a word
unfoldable pub report_text : Float → MicroReport → List ℕ
report_text x (Whole n) = number_text (signed n)
report_text x Over = over_text x
report_text x Nan = ascii "nan"

unfoldable pub millionths_text : Float → List ℕ
millionths_text x = report_text x (micro_report_of x)

-- ---- an impulse or a bound

abbrev pub is_over : MicroReport → Bool
is_over (Whole n) = false
is_over Over = true
is_over Nan = false

-- Its millionths, which have no point; where the report is Over, the number itself, as a decimal of nine digits with a point and an exponent that reads as it (decimals, `spelled_text`): so
-- it keeps its sign and its size. An infinity is `inf` or `-inf`.
unfoldable pub impulse_text : Float → List ℕ
impulse_text x = cond (is_over (micro_report_of x)) (spelled_text x) (millionths_text x)

-- a text at the right of 15 bytes, and a blank
unfoldable pub right_column : List ℕ → List ℕ
right_column text = at_right 15 text ++ SPACE ∷ []

-- an impulse or a bound in its column
unfoldable pub number_column : Float → List ℕ
number_column x = right_column (impulse_text x)
