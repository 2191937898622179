-- What a word spells: a decimal, f32 bits in hexadecimal digits, or an infinity.
use Rattle.std.specs.Prelude.{Bool, true, false, cond, ◌&&◌, ◌||◌, List, [], ◌∷◌, ℕ, suc, ◌+◌, ◌-◌, ◌*◌, ◌^◌, leb, ltb, eqb, length, get_or, drop, Float, Result, Ok, Err}
use Rattle.std.specs.Float.{inf, binary32}
use Rattle.std.specs.Float.Ieee.{of_bits}
use Rattle.texts.specs.Ascii.{PLUS, MINUS, POINT}
use Rattle.texts.specs.Digits.{is_digit}
use Rattle.decimals.specs.Rounding.{decimal_of}
use Rattle.decimals.specs.declared.number.NumberFault.{NumberFault}
use Rattle.decimals.specs.declared.number.NumberFault.TheVariants.{TooManyDigits, NotANumber}

-- a number, or why the word is none
abbrev pub Reading : Type 0
Reading = Result Float NumberFault

-- ---- the digits at the front of a text

unfoldable pub digits_count : List ℕ → ℕ
digits_count [] = 0
digits_count (b ∷ bs) = cond (is_digit b) (suc (digits_count bs)) 0

-- the number that they spell after the digits of v
unfoldable pub digits_value : ℕ → List ℕ → ℕ
digits_value v [] = v
digits_value v (b ∷ bs) = cond (is_digit b) (digits_value (v * 10 + (b - 0x30)) bs) v

abbrev pub after_digits : List ℕ → List ℕ
after_digits bs = drop (digits_count bs) bs

-- ---- decimals: digits with at most one point and at least one digit, then an exponent or none

-- All digits as one whole number w, f of them after the point, and the exponent e, upward or downward: w · 10^e / 10^f, or w / 10^(f + e).
-- 19 digits are taken, leading zeros aside, and more are an error.
unfoldable pub decimal_read : Bool → ℕ → ℕ → Bool → ℕ → Reading
decimal_read negative w f down e =
    cond (ltb w (10 ^ 19)) (Ok (cond down (decimal_of negative w 0 (f + e)) (decimal_of negative w e f))) (Err TooManyDigits)

-- the exponent's digits: at least one, and nothing after them
unfoldable pub exponent_digits : Bool → ℕ → ℕ → Bool → List ℕ → Reading
exponent_digits negative w f down bs =
    cond (eqb (digits_count bs) 0) (Err NotANumber)
    (cond (ltb (digits_count bs) (length bs)) (Err NotANumber) (decimal_read negative w f down (digits_value 0 bs)))

unfoldable pub exponent_sign : Bool → ℕ → ℕ → List ℕ → Reading
exponent_sign negative w f [] = Err NotANumber
exponent_sign negative w f (b ∷ bs) =
    cond (eqb b PLUS) (exponent_digits negative w f false bs)
    (cond (eqb b MINUS) (exponent_digits negative w f true bs) (exponent_digits negative w f false (b ∷ bs)))

-- `e` or `E`, or the end
unfoldable pub exponent_part : Bool → ℕ → ℕ → List ℕ → Reading
exponent_part negative w f [] = decimal_read negative w f false 0
exponent_part negative w f (b ∷ bs) = cond (eqb b 0x65 || eqb b 0x45) (exponent_sign negative w f bs) (Err NotANumber)

-- after a point: further digits or none, and n of the value w before it
unfoldable pub point_digits : Bool → ℕ → ℕ → List ℕ → Reading
point_digits negative n w bs =
    cond (eqb (n + digits_count bs) 0) (Err NotANumber) (exponent_part negative (digits_value w bs) (digits_count bs) (after_digits bs))

unfoldable pub no_point : Bool → ℕ → ℕ → List ℕ → Reading
no_point negative n w bs = cond (eqb n 0) (Err NotANumber) (exponent_part negative w 0 bs)

-- after n digits of the value w
unfoldable pub point_part : Bool → ℕ → ℕ → List ℕ → Reading
point_part negative n w [] = no_point negative n w []
point_part negative n w (b ∷ bs) = cond (eqb b POINT) (point_digits negative n w bs) (no_point negative n w (b ∷ bs))

unfoldable pub decimal_word : Bool → List ℕ → Reading
decimal_word negative bs = point_part negative (digits_count bs) (digits_value 0 bs) (after_digits bs)

-- ---- f32 bits: 0x and eight hexadecimal digits of either case

-- 16 is no digit
unfoldable pub hex_value : ℕ → ℕ
hex_value b =
    cond (leb 0x30 b && leb b 0x39) (b - 0x30)
    (cond (leb 0x41 b && leb b 0x46) (b - 0x37) (cond (leb 0x61 b && leb b 0x66) (b - 0x57) 16))

unfoldable pub bits_after : ℕ → List ℕ → Reading
bits_after v [] = Ok (of_bits binary32 v)
bits_after v (b ∷ bs) = cond (ltb (hex_value b) 16) (bits_after (v * 16 + hex_value b) bs) (Err NotANumber)

unfoldable pub is_hex : List ℕ → Bool
is_hex bs = leb 2 (length bs) && eqb (get_or bs 0 0) 0x30 && eqb (get_or bs 1 0) 0x78

unfoldable pub bits_word : List ℕ → Reading
bits_word bs = cond (eqb (length bs) 10) (bits_after 0 (drop 2 bs)) (Err NotANumber)

-- ---- words

unfoldable pub is_inf : List ℕ → Bool
is_inf bs = eqb (length bs) 3 && eqb (get_or bs 0 0) 0x69 && eqb (get_or bs 1 0) 0x6e && eqb (get_or bs 2 0) 0x66

unfoldable pub unsigned : Bool → List ℕ → Reading
unsigned negative bs = cond (is_inf bs) (Ok (inf negative)) (decimal_word negative bs)

unfoldable pub reading_of : List ℕ → Reading
reading_of [] = Err NotANumber
reading_of (b ∷ bs) =
    cond (eqb b PLUS) (unsigned false bs)
    (cond (eqb b MINUS) (unsigned true bs) (cond (is_hex (b ∷ bs)) (bits_word (b ∷ bs)) (unsigned false (b ∷ bs))))
