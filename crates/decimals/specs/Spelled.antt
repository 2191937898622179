-- A number as a decimal of nine digits, as C's `%.8e` writes it, that reads as the same number.
use Rattle.std.specs.Prelude.{Bool, true, false, cond, List, [], ◌∷◌, ◌++◌, ◌≡◌, ℕ, zero, suc, ◌-◌, ◌*◌, ◌/◌, ◌%◌, ◌^◌, ◌<◌, ltb, leb, eqb, Float, length, replicate, Ok, Err}
use Rattle.std.specs.Float.{nan, inf, fin, binary32}
use Rattle.std.specs.Float.Ieee.{to_bits}
use Rattle.std.specs.Float.Ieee.Nearest.{closest}
use Rattle.texts.specs.Ascii.{ascii, MINUS, PLUS, POINT, SPACE}
use Rattle.texts.specs.Digits.{digit}
use Rattle.floats.specs.Bits.{units_of}
use Rattle.decimals.specs.Text.{bits_text}
use Rattle.decimals.specs.Words.{Reading, reading_of}
use Rattle.decimals.specs.declared.spelled.Nine.{Nine}
use Rattle.decimals.specs.declared.spelled.Spelling.{Spelling}

-- ---- nine digits

-- n units of 2^-149, the smallest binary32 value, are n · 5^53 / 2^96 units of 10^-53, of which the least number has 140129846
abbrev pub tenths : ℕ → ℕ
tenths n = n * 5 ^ 53

-- places places fewer
abbrev pub fewer : ℕ → ℕ
fewer places = 2 ^ 96 * 10 ^ places

-- How many places are dropped: the fewest that leave a number below 10^9 where it is rounded, half way to the even one. 83 are enough for the largest number.
unfoldable pub places_from : ℕ → ℕ → ℕ → ℕ
places_from zero twice places = places
places_from (suc steps) twice places = cond (leb (fewer places * 1999999999) twice) (places_from steps twice (suc places)) places

unfoldable pub places_of : ℕ → ℕ
places_of num = places_from 83 (num * 2) 0

-- ---- how the program finds the places: with them stands what n is divided by; nothing here need be believed
pub record Leaves (num den places : ℕ) : Type 0 where
  pub fewest : places ≡ places_of num
  pub by : den ≡ fewer places
  pub some : 0 < den
  pub nine : num < den * 1000000000
  pub room : den * 2000000000 < 2 ^ 448

-- the digits, and how many places below 10^-45 the first of them does not stand: 45 for 1 to 9.99999999, and for 0
unfoldable pub nine_of : ℕ → Nine
nine_of n =
    cond (eqb n 0) (record { digits = 0; places = 45 })
    (record { digits = closest (tenths n) (fewer (places_of (tenths n))); places = places_of (tenths n) })

-- ---- their text

-- digit p of a number, 10^p ones
abbrev pub digit_at : ℕ → ℕ → ℕ
digit_at n p = digit (n / p % 10)

-- the exponent's sign and size: 10^0 stands for 45 places
abbrev pub exponent_sign : ℕ → ℕ
exponent_sign places = cond (ltb places 45) MINUS PLUS

abbrev pub exponent_size : ℕ → ℕ
exponent_size places = cond (ltb places 45) (45 - places) (places - 45)

-- a digit, a point, eight digits and the exponent in two
unfoldable pub nine_text : Nine → List ℕ
nine_text nine =
    digit_at nine.digits 100000000
    ∷ POINT
    ∷ digit_at nine.digits 10000000
    ∷ digit_at nine.digits 1000000
    ∷ digit_at nine.digits 100000
    ∷ digit_at nine.digits 10000
    ∷ digit_at nine.digits 1000
    ∷ digit_at nine.digits 100
    ∷ digit_at nine.digits 10
    ∷ digit_at nine.digits 1
    ∷ 0x65
    ∷ exponent_sign nine.places
    ∷ digit_at (exponent_size nine.places) 10
    ∷ digit_at (exponent_size nine.places) 1
    ∷ []

-- a minus before a negative number
abbrev pub signed_text : Bool → List ℕ → List ℕ
signed_text true text = MINUS ∷ text
signed_text false text = text

-- a NaN has none
unfoldable pub nine_digits : Float → List ℕ
nine_digits nan = []
nine_digits (inf s) = signed_text s (ascii "inf")
nine_digits (fin s m e) = signed_text s (nine_text (nine_of (units_of m e)))

-- ---- the text that is written

-- the same number with the same sign
unfoldable pub reads_as : Float → Reading → Bool
reads_as x (Ok y) = eqb (to_bits binary32 y) (to_bits binary32 x)
reads_as x (Err fault) = false

-- the nine digits, or the bits where these would not do. That it reads as the number is the theorem of proofs/SpelledLaws.antt.
unfoldable pub spelled_text : Float → List ℕ
spelled_text x = cond (reads_as x (reading_of (nine_digits x))) (nine_digits x) (bits_text (to_bits binary32 x))

-- the text at the left of 15 bytes
unfoldable pub spelled : List ℕ → Spelling
spelled text = record { bytes = text ++ replicate (15 - length text) SPACE; len = length text }
