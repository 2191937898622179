-- Request R-6: a whole number is an optional sign and digits. Its size is at most 8000000.
use Rattle.std.specs.Prelude.{ℕ, ◌+◌, ◌-◌, ◌*◌, Bool, false, cond, ◌&&◌, ◌||◌, List, [], ◌∷◌, ◌==◌, nat_le, nat_lt}
use Rattle.std.proofs.Math.Option.{Option, none, some}
use Rattle.texts.specs.Ascii.{PLUS, MINUS}
use Rattle.texts.specs.Digits.{is_digit}
use Rattle.motor_table.specs.declared.whole_number.Number.{Number}

abbrev pub largest_size : ℕ
largest_size = 8000000

unfoldable pub is_sign : ℕ → Bool
is_sign b = b == PLUS || b == MINUS

-- the number of a sign and a size: −0 is 0
abbrev pub number_of : Bool → ℕ → Number
number_of minus n = record { negative = minus && nat_lt 0 n; size = n }

-- the number that digits spell after those of v; none where a byte is no digit
unfoldable pub digits_after : ℕ → List ℕ → Option ℕ
digits_after v [] = some v
digits_after v (b ∷ bs) = cond (is_digit b) (digits_after (v * 10 + (b - 0x30)) bs) none

-- the number, where its size is small enough
unfoldable pub sized : Bool → Option ℕ → Option Number
sized minus none = none
sized minus (some n) = cond (nat_le n largest_size) (some (number_of minus n)) none

-- at least one digit
unfoldable pub unsigned : Bool → List ℕ → Option Number
unsigned minus [] = none
unsigned minus (b ∷ bs) = sized minus (digits_after 0 (b ∷ bs))

unfoldable pub whole_number : List ℕ → Option Number
whole_number [] = none
whole_number (b ∷ bs) = cond (is_sign b) (unsigned (b == MINUS) bs) (unsigned false (b ∷ bs))
