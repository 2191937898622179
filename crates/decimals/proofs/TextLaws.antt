-- What is written is read back: the word of any 32 bits reads as the number that they stand for, so the word of any f32 reads as it.
use mathlib.Core.Path.{◌≡◌, refl, sym, ap, ◌∙◌}
use mathlib.Core.Logic.{inl, inr}
use mathlib.Core.Bool.{Bool, true, cond}
use mathlib.Core.List.{List, [], ◌∷◌}
use Prim.Native.Nat.{ℕ, ◌+◌, ◌*◌, ◌/◌, ◌%◌, ◌^◌, ◌≤◌, ◌<◌}
use native.Mathlib.Omega.{arith}
use borrow.Author.Tests.{lt-ltb}
use lib.Dec.{T, ltb}
use lib.ListN.{get_or, get_or-eq_default}
use lib.Ieee.{Float, binary32, of_bits, to_bits, fits}
use lib.Ieee.Bits.{of_bits-to_bits, to_bits-lt}
use Rattle.texts.specs.Hex.{hex_digit, hex_word}
use Rattle.texts.proofs.HexLaws.{digit_low, digit-capital}
use Rattle.decimals.specs.Words.{hex_value, bits_after, is_hex, bits_word, reading_of}
use Rattle.decimals.specs.Text.{bits_text}
use Rattle.decimals.specs.Exports.{reading_number}
use Rattle.decimals.specs.Words.{Reading}
use Rattle.std.proofs.Common.{Ok, Err}
use Rattle.decimals.specs.declared.number.NumberFault.TheVariants.{TooManyDigits, NotANumber}
use Rattle.decimals.proofs.PatternLaws.{side}
use Rattle.decimals.proofs.WordLaws.{hex-decimal, hex-upper}

digit-back : (d : ℕ) → d < 16 → hex_value (hex_digit true d) ≡ d
digit-back d h =
    elim (side d 10) [
      | inl l ↦ ap hex_value (sym (digit_low true d l)) ∙ sym (hex-decimal (0x30 + d) (omega arith) (omega arith)) ∙ omega arith
      | inr g ↦ ap hex_value (sym (digit-capital true d g refl)) ∙ sym (hex-upper (0x37 + d) (omega arith) (omega arith)) ∙ omega arith
    ]

-- one digit of a word
read-digit : (v d n : ℕ) (bs : List ℕ) → d < 16 → v * 16 + d ≡ n → bits_after v (hex_digit true d ∷ bs) ≡ bits_after n bs
unfolding bits_after
read-digit v d n bs h e =
    ap (λ (x : ℕ). cond (ltb x 16) (bits_after (v * 16 + x) bs) (Err NotANumber)) (digit-back d h)
    ∙ ap (λ (t : Bool). cond t (bits_after (v * 16 + d) bs) (Err NotANumber)) (lt-ltb d 16 h)
    ∙ ap (λ (x : ℕ). bits_after x bs) e

module _ (b : ℕ) where
  -- the last digits of the word
  abbrev t1 : List ℕ
  t1 = hex_digit true (b % 16) ∷ []

  abbrev t2 : List ℕ
  t2 = hex_digit true (b / 0x10 % 16) ∷ t1

  abbrev t3 : List ℕ
  t3 = hex_digit true (b / 0x100 % 16) ∷ t2

  abbrev t4 : List ℕ
  t4 = hex_digit true (b / 0x1000 % 16) ∷ t3

  abbrev t5 : List ℕ
  t5 = hex_digit true (b / 0x10000 % 16) ∷ t4

  abbrev t6 : List ℕ
  t6 = hex_digit true (b / 0x100000 % 16) ∷ t5

  abbrev t7 : List ℕ
  t7 = hex_digit true (b / 0x1000000 % 16) ∷ t6

  pub bits-read-back : b < 2 ^ 32 → reading_of (bits_text b) ≡ Ok (of_bits binary32 b)
  unfolding reading_of bits_text hex_word is_hex bits_word bits_after
  bits-read-back h =
      read-digit 0 (b / 0x10000000) (b / 0x10000000) t7 (omega arith) (omega arith)
      ∙ read-digit (b / 0x10000000) (b / 0x1000000 % 16) (b / 0x1000000) t6 (omega arith) (omega arith)
      ∙ read-digit (b / 0x1000000) (b / 0x100000 % 16) (b / 0x100000) t5 (omega arith) (omega arith)
      ∙ read-digit (b / 0x100000) (b / 0x10000 % 16) (b / 0x10000) t4 (omega arith) (omega arith)
      ∙ read-digit (b / 0x10000) (b / 0x1000 % 16) (b / 0x1000) t3 (omega arith) (omega arith)
      ∙ read-digit (b / 0x1000) (b / 0x100 % 16) (b / 0x100) t2 (omega arith) (omega arith)
      ∙ read-digit (b / 0x100) (b / 0x10 % 16) (b / 0x10) t1 (omega arith) (omega arith)
      ∙ read-digit (b / 0x10) (b % 16) b [] (omega arith) (omega arith)

pub number-read-back : (x : Float) → T (fits binary32 x) → reading_of (bits_text (to_bits binary32 x)) ≡ Ok x
number-read-back x h = bits-read-back (to_bits binary32 x) (to_bits-lt binary32 x h) ∙ ap Ok (of_bits-to_bits binary32 x h)

-- ---- the exports
pub text-past : (b i : ℕ) → 10 ≤ i → 0 ≡ get_or (bits_text b) i 0
unfolding bits_text hex_word
text-past b i h = sym (get_or-eq_default (bits_text b) 0 {n = i} h)

pub export-number : (r : Reading) (x : Float) → r ≡ Ok x → to_bits binary32 x ≡ reading_number r
unfolding reading_number
export-number r x e = sym (ap reading_number e)

pub export-digits : (r : Reading) → r ≡ (Err TooManyDigits) → 4294967296 ≡ reading_number r
unfolding reading_number
export-digits r e = sym (ap reading_number e)

pub export-none : (r : Reading) → r ≡ (Err NotANumber) → 4294967297 ≡ reading_number r
unfolding reading_number
export-none r e = sym (ap reading_number e)
