-- Words and their readings, as one table that is computed over the definitions: ties to the even one, the smallest and the largest values, exponents, digits, bits.
use mathlib.Core.Path.{◌≡◌, refl}
use mathlib.Core.List.{List, [], ◌∷◌, map}
use Prim.Native.Nat.{ℕ}
use lib.Ieee.{binary32, round, of_bits}
use Rattle.decimals.specs.Rounding.{decimal_of}
use Rattle.texts.specs.Digits.{is_digit}
use Rattle.decimals.specs.Words.{digits_count, digits_value, decimal_read, exponent_digits, exponent_sign, exponent_part, point_digits, no_point, point_part, decimal_word, hex_value, bits_after, is_hex, bits_word, is_inf, unsigned, reading_of}
use Rattle.decimals.specs.Words.{Reading}
use Rattle.std.proofs.Common.{Ok, Err}
use Rattle.decimals.specs.declared.number.NumberFault.TheVariants.{TooManyDigits, NotANumber}

pub record Case : Type 0 where
  pub word : List ℕ
  pub reading : Reading

unfoldable pub table : List Case
unfolding of_bits
table =
    -- 16777217: half way between 16777216 and 16777218, of which the first has the even significand
    (record { word = 0x31 ∷ 0x36 ∷ 0x37 ∷ 0x37 ∷ 0x37 ∷ 0x32 ∷ 0x31 ∷ 0x37 ∷ []; reading = Ok (of_bits binary32 0x4b800000) })
    ∷
    -- 16777219: half way between 16777218 and 16777220
    (record { word = 0x31 ∷ 0x36 ∷ 0x37 ∷ 0x37 ∷ 0x37 ∷ 0x32 ∷ 0x31 ∷ 0x39 ∷ []; reading = Ok (of_bits binary32 0x4b800002) })
    ∷
    -- 0.1
    (record { word = 0x30 ∷ 0x2e ∷ 0x31 ∷ []; reading = Ok (of_bits binary32 0x3dcccccd) })
    ∷
    -- -.5e1
    (record { word = 0x2d ∷ 0x2e ∷ 0x35 ∷ 0x65 ∷ 0x31 ∷ []; reading = Ok (of_bits binary32 0xc0a00000) })
    ∷
    -- -0
    (record { word = 0x2d ∷ 0x30 ∷ []; reading = Ok (of_bits binary32 0x80000000) })
    ∷
    -- 1e-45: nearer to the smallest value, 1.4e-45, than to 0
    (record { word = 0x31 ∷ 0x65 ∷ 0x2d ∷ 0x34 ∷ 0x35 ∷ []; reading = Ok (of_bits binary32 1) })
    ∷
    -- 7E-46: nearer to 0
    (record { word = 0x37 ∷ 0x45 ∷ 0x2d ∷ 0x34 ∷ 0x36 ∷ []; reading = Ok (of_bits binary32 0) })
    ∷
    -- 1e+38
    (record { word = 0x31 ∷ 0x65 ∷ 0x2b ∷ 0x33 ∷ 0x38 ∷ []; reading = Ok (of_bits binary32 0x7e967699) })
    ∷
    -- 1e39: past the largest number
    (record { word = 0x31 ∷ 0x65 ∷ 0x33 ∷ 0x39 ∷ []; reading = Ok (of_bits binary32 0x7f800000) })
    ∷
    -- 0x3f8000aB
    (record { word = 0x30 ∷ 0x78 ∷ 0x33 ∷ 0x66 ∷ 0x38 ∷ 0x30 ∷ 0x30 ∷ 0x30 ∷ 0x61 ∷ 0x42 ∷ []; reading = Ok (of_bits binary32 0x3f8000ab) })
    ∷
    -- -inf
    (record { word = 0x2d ∷ 0x69 ∷ 0x6e ∷ 0x66 ∷ []; reading = Ok (of_bits binary32 0xff800000) })
    ∷
    -- 10000000000000000000: 20 digits
    (record { word = 0x31 ∷ 0x30 ∷ 0x30 ∷ 0x30 ∷ 0x30 ∷ 0x30 ∷ 0x30 ∷ 0x30 ∷ 0x30 ∷ 0x30 ∷ 0x30 ∷ 0x30 ∷ 0x30 ∷ 0x30 ∷ 0x30 ∷ 0x30 ∷ 0x30 ∷ 0x30 ∷ 0x30 ∷ 0x30 ∷ []; reading = (Err TooManyDigits) })
    ∷
    -- .
    (record { word = 0x2e ∷ []; reading = (Err NotANumber) })
    ∷
    -- 1e
    (record { word = 0x31 ∷ 0x65 ∷ []; reading = (Err NotANumber) })
    ∷
    -- nan
    (record { word = 0x6e ∷ 0x61 ∷ 0x6e ∷ []; reading = (Err NotANumber) })
    ∷
    -- -0x3F800000
    (record { word = 0x2d ∷ 0x30 ∷ 0x78 ∷ 0x33 ∷ 0x46 ∷ 0x38 ∷ 0x30 ∷ 0x30 ∷ 0x30 ∷ 0x30 ∷ 0x30 ∷ []; reading = (Err NotANumber) })
    ∷ []

pub cases : map (λ (c : Case). reading_of c.word) table ≡ map (λ (c : Case). c.reading) table
unfolding table reading_of is_hex hex_value bits_after bits_word unsigned is_inf decimal_word is_digit digits_count digits_value point_part point_digits no_point exponent_part exponent_sign exponent_digits decimal_read decimal_of round of_bits
cases = refl
