-- What the printed words are read as: numbers, whole numbers, names.
use mathlib.Core.Path.{◌≡◌, refl, sym, ap, ◌∙◌}
use mathlib.Core.Logic.{◌≢◌}
use mathlib.Core.Bool.{Bool, true, false, cond}
use mathlib.Core.List.{List, [], ◌∷◌}
use mathlib.Core.Option.{some}
use Prim.Native.Nat.{ℕ, zero, suc, ◌+◌, ◌/◌, ◌%◌, ◌≤◌, ◌<◌}
use native.Mathlib.Omega.{arith}
use borrow.Author.Tests.{le-leb, leb-true, ltb-false, eq-eqb, eqb-true}
use lib.Dec.{T, leb, ltb, eqb}
use lib.Ieee.{Float, binary32, fits}
use lib.ListN.{length}
use Rattle.decimals.specs.Words.{reading_of}
use Rattle.texts.specs.Hex.{hex_digit, hex_word}
use Rattle.decimals.specs.Text.{bits_text}
use Rattle.std.specs.Prelude.{Ok}
use Rattle.decimals.proofs.TextLaws.{number-read-back}
use Rattle.motor_table.specs.WholeNumber.{digits_after}
use Rattle.motor_table.proofs.RoundTrip.{decimal-back}
use Rattle.texts.specs.Digits.{digit, decimal_onto, decimal}
use Rattle.texts.specs.Ascii.{ascii}
use Rattle.study_reader.specs.Words.{has, same_bytes, bytes_of, whole_number, whole_up_to}
use Rattle.study_reader.specs.Numbers.{number_in}
use Rattle.study_reader.specs.declared.words.Word.{Word}
use Rattle.std.specs.Prelude.{Some, None}
use Rattle.study_writer.specs.Text.{number_word, body_word, joint_word}
use Rattle.study_writer.proofs.Lexical.{plain, proper, both, proper-plain, other-byte'}

-- ---- numbers

letter : (d : ℕ) → leb 0x30 (hex_digit true d) ≡ true
unfolding hex_digit
letter d = go (ltb d 10)
  where
    go : (t : Bool) → leb 0x30 (cond t (0x30 + d) (0x37 + d)) ≡ true
    go true = le-leb 0x30 (0x30 + d) (omega arith)
    go false = le-leb 0x30 (0x37 + d) (omega arith)

pub number-proper : (x : Float) → proper (number_word x) ≡ true
unfolding number_word bits_text hex_word
number-proper x = simp letter

pub number_read : (text : List ℕ) (w : Word) (x : Float) → T (fits binary32 x) → bytes_of text w ≡ number_word x → number_in text w ≡ Ok x
unfolding number_word number_in
number_read text w x f h = ap reading_of h ∙ number-read-back x f

-- ---- whole numbers

onto-proper : (steps n : ℕ) (text : List ℕ) → plain text ≡ true → proper (decimal_onto steps n text) ≡ true
unfolding decimal_onto
onto-proper zero n text h = simp (le-leb 0x30 (0x30 + n) (omega arith), h)
onto-proper (suc s) n text h =
    go (ltb n 10) (onto-proper s (n / 10) (digit (n % 10) ∷ text) (simp (le-leb 0x30 (0x30 + n % 10) (omega arith), h)))
  where
    go : (t : Bool) → proper (decimal_onto s (n / 10) (digit (n % 10) ∷ text)) ≡ true
        → proper (elim t [ true ↦ digit n ∷ text | false ↦ decimal_onto s (n / 10) (digit (n % 10) ∷ text) ]) ≡ true
    go true ih = simp (le-leb 0x30 (0x30 + n) (omega arith), h)
    go false ih = ih

pub decimal-proper : (n : ℕ) → proper (decimal n) ≡ true
unfolding decimal
decimal-proper n = onto-proper n n [] refl

onto-short : (steps n : ℕ) (text : List ℕ) → length (decimal_onto steps n text) ≤ length text + 1 + n / 10
unfolding decimal_onto
onto-short zero n text = omega arith
onto-short (suc s) n text = go (ltb n 10) refl (onto-short s (n / 10) (digit (n % 10) ∷ text))
  where
    go : (t : Bool) → ltb n 10 ≡ t → length (decimal_onto s (n / 10) (digit (n % 10) ∷ text)) ≤ length (digit (n % 10) ∷ text) + 1 + n / 10 / 10
        → length {A = ℕ} (elim t [ true ↦ digit n ∷ text | false ↦ decimal_onto s (n / 10) (digit (n % 10) ∷ text) ]) ≤ length text + 1 + n / 10
    go true e ih = omega arith
    go false e ih = let l = ltb-false n 10 e in omega arith

pub decimal-short : (n : ℕ) → length (decimal n) ≤ 1 + n / 10
unfolding decimal
decimal-short n = onto-short n n []

whole_back : (bs : List ℕ) (n : ℕ) → proper bs ≡ true → digits_after 0 bs ≡ some n → n ≤ 4294967289 → whole_number bs ≡ Some n
unfolding whole_number whole_up_to
whole_back [] n p e h = let z : false ≡ true = p in cc
whole_back (b ∷ bs) n p e h = ap whole_up_to e ∙ ap (λ (t : Bool). cond t (Some n) None) (le-leb n 4294967289 h)

pub whole-read : (n : ℕ) → n ≤ 4294967289 → whole_number (decimal n) ≡ Some n
whole-read n h = whole_back (decimal n) n (decimal-proper n) (decimal-back n) h

-- ---- the same bytes

pub same_refl : (a : List ℕ) → same_bytes a a ≡ true
unfolding same_bytes
same_refl [] = refl
same_refl (b ∷ bs) = simp (eq-eqb b b refl, same_refl bs)

pub same_true : (a b : List ℕ) → same_bytes a b ≡ true → a ≡ b
unfolding same_bytes
same_true [] [] h = refl
same_true [] (b ∷ bs) h = let z : false ≡ true = h in cc
same_true (a ∷ rest) [] h = let z : false ≡ true = h in cc
same_true (a ∷ rest) (b ∷ bs) h =
    let p = both (eqb a b) (same_bytes rest bs) h in
    let e = eqb-true a b p.0 in
    let f = same_true rest bs p.1 in
    cc

-- ---- names

pub body-proper : (i : ℕ) → proper (body_word i) ≡ true
unfolding body_word
body-proper i = proper-plain (decimal i) (decimal-proper i)

pub joint-proper : (j : ℕ) → proper (joint_word j) ≡ true
unfolding joint_word
joint-proper j = proper-plain (decimal j) (decimal-proper j)

decimal-apart : (i j : ℕ) → i ≢ j → same_bytes (decimal i) (decimal j) ≡ false
decimal-apart i j h = go (same_bytes (decimal i) (decimal j)) refl
  where
    go : (t : Bool) → same_bytes (decimal i) (decimal j) ≡ t → t ≡ false
    go true e =
        let f : some i ≡ some j = sym (decimal-back i) ∙ ap (digits_after 0) (same_true (decimal i) (decimal j) e) ∙ decimal-back j in
        absurd (h cc)
    go false e = refl

pub bodies-apart : (i j : ℕ) → i ≢ j → same_bytes (body_word i) (body_word j) ≡ false
unfolding body_word same_bytes
bodies-apart i j h = decimal-apart i j h

pub joints-apart : (i j : ℕ) → i ≢ j → same_bytes (joint_word i) (joint_word j) ≡ false
unfolding joint_word same_bytes
joints-apart i j h = decimal-apart i j h

pub body-no-joint : (i j : ℕ) → same_bytes (body_word i) (joint_word j) ≡ false
unfolding body_word joint_word same_bytes
body-no-joint i j = refl

pub body-no-world : (i : ℕ) → same_bytes (body_word i) (ascii "world") ≡ false
unfolding body_word same_bytes
body-no-world i = refl

pub joint-no-world : (j : ℕ) → same_bytes (joint_word j) (ascii "world") ≡ false
unfolding joint_word same_bytes
joint-no-world j = refl

-- a plain word has no comma and no quote
pub plain-has : (w : List ℕ) (c : ℕ) → plain w ≡ true → c < 0x30 → has w c ≡ false
unfolding has
plain-has [] c h k = refl
plain-has (b ∷ bs) c h k =
    let p = both (leb 0x30 b) (plain bs) h in
    simp (other-byte' b c (leb-true 0x30 b p.0) k, plain-has bs c p.1 k)
