-- A number of the text, and the fault of a word that is none.
use Rattle.std.specs.Prelude.{Option, Some, None, List, ℕ, Float}
use Rattle.study_reader.specs.declared.faults.Fault.{Fault}
use Rattle.floats.specs.Operators.{bits}
use Rattle.decimals.specs.Words.{reading_of}
use Rattle.std.specs.Prelude.{Result, Ok, Err}
use Rattle.decimals.specs.declared.number.NumberFault.{NumberFault}
use Rattle.decimals.specs.declared.number.NumberFault.TheVariants.{TooManyDigits, NotANumber}
use Rattle.study_reader.specs.Faults.{fault_number, fault_digits}
use Rattle.study_reader.specs.Words.{bytes_of}
use Rattle.study_reader.specs.declared.words.Word.{Word}

unfoldable pub number_in : List ℕ → Word → Result Float NumberFault
number_in text w = reading_of (bytes_of text w)

-- none where it is a number
unfoldable pub number_fault : Result Float NumberFault → Option Fault
number_fault (Ok x) = None
number_fault (Err TooManyDigits) = Some fault_digits
number_fault (Err NotANumber) = Some fault_number

unfoldable pub value_of : Result Float NumberFault → Float
value_of (Ok x) = x
value_of (Err TooManyDigits) = bits 0
value_of (Err NotANumber) = bits 0
