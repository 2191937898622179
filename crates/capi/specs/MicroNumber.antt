-- The micro report as one number.
use Rattle.std.specs.Prelude.{◌^◌, ℤ, pos, Float}
use Rattle.floats.specs.MicroReport.{micro_report_of}
use Rattle.floats.specs.declared.micro_report.MicroReport.{MicroReport}
use Rattle.floats.specs.declared.micro_report.MicroReport.TheVariants.{Whole, Over, Nan}

-- a whole number is itself, Over is 2 ^ 32 and NaN is 2 ^ 33
abbrev pub number_of : MicroReport → ℤ
number_of (Whole n) = n
number_of Over = pos (2 ^ 32)
number_of Nan = pos (2 ^ 33)

abbrev pub micro_number : Float → ℤ
micro_number x = number_of (micro_report_of x)
