-- What callers of C and Rust get: a number's bits, or a number that no 32 bits hold.
use Rattle.std.specs.Prelude.{ℕ, ◌^◌, ◌+◌, Ok, Err}
use Rattle.std.specs.Float.{binary32}
use Rattle.std.specs.Float.Ieee.{to_bits}
use Rattle.decimals.specs.Words.{Reading}
use Rattle.decimals.specs.declared.number.NumberFault.TheVariants.{TooManyDigits, NotANumber}

unfoldable pub reading_number : Reading → ℕ
reading_number (Ok x) = to_bits binary32 x
reading_number (Err TooManyDigits) = 2 ^ 32
reading_number (Err NotANumber) = 2 ^ 32 + 1
