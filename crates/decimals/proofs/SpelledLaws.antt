-- The nine digits of a number: room for them, the places that are dropped, their text, and that what is written reads as the number.
use mathlib.Core.Path.{◌≡◌, refl, sym, ap, subst, ◌∙◌}
use mathlib.Core.Bool.{Bool, true, false, cond, ◌||◌}
use mathlib.Core.List.{List, [], ◌∷◌, ◌++◌}
use Prim.Native.Nat.{ℕ, suc, ◌+◌, ◌-◌, ◌*◌, ◌^◌, ◌≤◌, ◌<◌}
use native.Mathlib.Nat.{lt_of_lt_of_le, lt_of_le_of_lt, zero-add, zero-mul, mul_assoc, mul-le-mul_left, mul-lt-mul_of_pos_right, pow-suc}
use native.Mathlib.Numerals.{add-one}
use native.Mathlib.Omega.{arith}
use borrow.Author.Tests.{le-leb, lt-leb, eqb-true, ne_eqb}
use lib.Dec.{T, leb, ltb, eqb, lit≤, lit<}
use lib.Pow.{pow_mono, shl_lt}
use lib.ListN.{length, take, drop, replicate, get_or, length-append, length-replicate, get_or-append, get_or-eq_default}
use lib.Seq.{take_at}
use lib.Ieee.{Float, nan, inf, fin, binary32, fits, of_bits, to_bits}
use lib.Ieee.Nearest.{closest}
use lib.Ieee.Bits.{of_bits-to_bits, of_bits-fits}
use lib.Ieee.Fits.{round-fits, cond-fits, inf-fits}
use Rattle.texts.specs.Ascii.{PLUS, MINUS, POINT, SPACE}
use Rattle.texts.specs.Sink.{Appended}
use Rattle.texts.proofs.SinkLaws.{put-there, end-there}
use Rattle.texts.specs.Hex.{hex_word}
use Rattle.floats.specs.Bits.{units_of, parts_of}
use Rattle.floats.specs.declared.bits.Parts.TheVariants.{Nan, Infinite}
use Rattle.floats.proofs.BitsLaws.{Finite-parts}
use Rattle.decimals.specs.Rounding.{decimal_of}
use Rattle.decimals.specs.Words.{digits_count, digits_value, after_digits, decimal_read, exponent_digits, exponent_sign, exponent_part, point_digits, no_point, point_part, decimal_word, hex_value, bits_after, bits_word, is_hex, is_inf, unsigned, reading_of}
use Rattle.decimals.specs.Text.{bits_text}
use Rattle.decimals.specs.Spelled.{fewer, tenths, places_from, places_of, nine_of, nine_text, signed_text, nine_digits, reads_as, spelled_text, spelled}
use Rattle.decimals.specs.Words.{Reading}
use Rattle.std.proofs.Common.{Ok, Err}
use Rattle.decimals.specs.declared.number.NumberFault.TheVariants.{TooManyDigits, NotANumber}
use Rattle.decimals.specs.declared.spelled.Nine.{Nine}
use Rattle.decimals.specs.declared.spelled.Spelling.{Spelling}
use Rattle.decimals.proofs.TextLaws.{number-read-back}

-- ---- room for the units, times 5^53

pub units-below : (d k : ℕ) → d < 2 ^ 24 → k ≤ 253 → d * 2 ^ k < 2 ^ 277
units-below d k h g = lt_of_lt_of_le (shl_lt 24 k h) (pow_mono {i = 24 + k} {j = 277} (omega arith))

module _ (u : ℕ) (small : u < 2 ^ 277) where
  pub units-room : u < 2 ^ 448
  units-room = lt_of_lt_of_le small (pow_mono {i = 277} {j = 448} (omega arith))

  pub fives-room : u * 1220703125 ^ 4 < 2 ^ 448
  fives-room = lt_of_lt_of_le (mul-lt-mul_of_pos_right small (omega arith)) (lit≤ tt)

  pub fives : u * 1220703125 ^ 4 * 5 ≡ tenths u
  fives = mul_assoc u (1220703125 ^ 4) 5

  pub tenths-room : u * 1220703125 ^ 4 * 5 < 2 ^ 448
  tenths-room = lt_of_lt_of_le (mul-lt-mul_of_pos_right (mul-lt-mul_of_pos_right small (omega arith)) (omega arith)) (lit≤ tt)

  pub tenths-below : tenths u < 2 ^ 277 * 5 ^ 53
  tenths-below = mul-lt-mul_of_pos_right small (lit< tt)

-- ---- the places that are dropped

pub twice-room : (num : ℕ) → num < 2 ^ 277 * 5 ^ 53 → num * 2 < 2 ^ 448
twice-room num h = lt_of_lt_of_le (mul-lt-mul_of_pos_right h (omega arith)) (lit≤ tt)

scaled : (den twice : ℕ) → den * 1999999999 ≤ twice → den * 10 * 2000000000 ≤ twice * 20
scaled den twice h = omega arith

pub next-den-room : (den num twice : ℕ) → twice ≡ num * 2 → den * 1999999999 ≤ twice → num < 2 ^ 277 * 5 ^ 53 → den * 10 * 2000000000 < 2 ^ 448
next-den-room den num twice e h l =
    lt_of_le_of_lt (scaled den twice h)
    (subst (λ (x : ℕ). x * 20 < 2 ^ 448) (sym e) (lt_of_lt_of_le (mul-lt-mul_of_pos_right (mul-lt-mul_of_pos_right l (omega arith)) (omega arith)) (lit≤ tt)))

pub den-room : (den k : ℕ) → k ≤ 2000000000 → den * 2000000000 < 2 ^ 448 → den * k < 2 ^ 448
den-room den k h l = lt_of_le_of_lt (mul-le-mul_left den h) l

pub next-fewer : (p : ℕ) → fewer p * 10 ≡ fewer (p + 1)
next-fewer p = mul_assoc (2 ^ 96) (10 ^ p) 10 ∙ ap (λ (x : ℕ). 2 ^ 96 * x) (sym (pow-suc 10 p) ∙ ap (λ (x : ℕ). 10 ^ x) (sym (add-one p)))

pub all-nine : (num : ℕ) → num < 2 ^ 277 * 5 ^ 53 → num < fewer 83 * 1000000000
all-nine num h = lt_of_lt_of_le h (lit≤ tt)

pub half-below : (den num twice : ℕ) → twice ≡ num * 2 → twice < den * 1999999999 → num < den * 1000000000
half-below den num twice e h = omega arith

module _ (twice p : ℕ) (h : p < 83) where
  from : places_from (83 - p) twice p ≡ cond (leb (fewer p * 1999999999) twice) (places_from (82 - p) twice (suc p)) p
  unfolding places_from
  from = ap (λ (s : ℕ). places_from s twice p) one_more
    where
      one_more : 83 - p ≡ suc (82 - p)
      one_more = omega arith

  pub places-here : twice < fewer p * 1999999999 → places_from (83 - p) twice p ≡ p
  places-here l = from ∙ ap (λ (t : Bool). cond t (places_from (82 - p) twice (suc p)) p) (lt-leb (fewer p * 1999999999) twice l)

  pub places-more : fewer p * 1999999999 ≤ twice → places_from (83 - p) twice p ≡ places_from (83 - (p + 1)) twice (p + 1)
  places-more l =
      from
      ∙ ap (λ (t : Bool). cond t (places_from (82 - p) twice (suc p)) p) (le-leb (fewer p * 1999999999) twice l)
      ∙ ap (λ (q : ℕ). places_from (82 - p) twice q) (sym (add-one p))
      ∙ ap (λ (s : ℕ). places_from s twice (p + 1)) fewer-steps
    where
      fewer-steps : 82 - p ≡ 83 - (p + 1)
      fewer-steps = omega arith

pub places-end : (twice p : ℕ) → p ≡ 83 → places_from (83 - p) twice p ≡ p
unfolding places_from
places-end twice p e = ap (λ (q : ℕ). places_from (83 - q) twice q) e ∙ sym e

pub places-all : (num twice p : ℕ) → twice ≡ num * 2 → places_from (83 - p) twice p ≡ places_from 83 twice 0 → places_from (83 - p) twice p ≡ p → p ≡ places_of num
unfolding places_of
places-all num twice p e inv here = sym here ∙ inv ∙ ap (λ (t : ℕ). places_from 83 t 0) e

-- ---- the digits

pub nine-zero : (d k : ℕ) → d ≡ 0 → record { digits = 0; places = 45 } ≡ nine_of (d * 2 ^ k)
unfolding nine_of
nine-zero d k e = sym (ap (λ (x : ℕ). nine_of (x * 2 ^ k)) e ∙ ap nine_of (zero-mul (2 ^ k)))

pub nine-some : (n digits places : ℕ) → 0 < n → digits ≡ closest (tenths n) (fewer (places_of (tenths n))) → places ≡ places_of (tenths n)
    → record { digits = digits; places = places } ≡ nine_of n
unfolding nine_of
nine-some n digits places some e f = cc (ne_eqb n 0 (λ (z : n ≡ 0). omega arith))

-- ---- the text at the left of 15 bytes

abbrev of : List ℕ → ℕ → Spelling
of bytes len = record { bytes = bytes; len = len }

module _ (t bytes : List ℕ) (n k : ℕ) (long : length t ≡ k) where
  pub plain-is : k ≤ 15 → drop k (replicate 15 SPACE) ≡ replicate (15 - k) SPACE → Appended (replicate 15 SPACE) 0 t bytes n → of bytes n ≡ spelled t
  unfolding spelled
  plain-is few filled p =
      ap (λ (l : List ℕ). of l n) (p.holds ∙ put-there (replicate 15 SPACE) 0 t (omega (arith, length-replicate {A = ℕ} 15 SPACE)) (omega arith) ∙ ap (λ (j : ℕ). t ++ drop j (replicate 15 SPACE)) (zero-add (length t) ∙ long) ∙ ap (λ (l : List ℕ). t ++ l) filled ∙ ap (λ (j : ℕ). t ++ replicate (15 - j) SPACE) (sym long))
      ∙ ap (of (t ++ replicate (15 - length t) SPACE)) (p.ends ∙ end-there 0 t (omega arith) ∙ zero-add (length t))

  pub minus_is : k ≤ 14 → drop k (replicate 14 SPACE) ≡ replicate (14 - k) SPACE → Appended (MINUS ∷ replicate 14 SPACE) 1 t bytes n → of bytes n ≡ spelled (MINUS ∷ t)
  unfolding spelled
  minus_is few filled p =
      ap (λ (l : List ℕ). of l n) (p.holds ∙ put-there (MINUS ∷ replicate 14 SPACE) 1 t (omega (arith, length-replicate {A = ℕ} 14 SPACE)) (omega arith) ∙ ap (λ (j : ℕ). MINUS ∷ t ++ drop j (MINUS ∷ replicate 14 SPACE)) (one_more (length t) ∙ ap suc long) ∙ ap (λ (l : List ℕ). MINUS ∷ t ++ l) filled ∙ ap (λ (j : ℕ). MINUS ∷ t ++ replicate j SPACE) room)
      ∙ ap (of (MINUS ∷ t ++ replicate (15 - suc (length t)) SPACE)) (p.ends ∙ end-there 1 t (omega arith) ∙ one_more (length t))
    where
      one_more : (j : ℕ) → 1 + j ≡ suc j
      one_more j = omega arith

      room : 14 - k ≡ 15 - suc (length t)
      room = omega arith

module _ (t : List ℕ) {w : Spelling} (e : w ≡ spelled t) where
  pub inside : w.len ≤ length w.bytes
  unfolding spelled
  inside = subst (λ (v : Spelling). v.len ≤ length v.bytes) (sym e) (omega (arith, length-append t (replicate (15 - length t) SPACE)))

  pub taken : take w.len w.bytes ≡ t
  unfolding spelled
  taken = ap (λ (v : Spelling). take v.len v.bytes) e ∙ take_at t (replicate (15 - length t) SPACE) (length t) refl

  pub byte-is : (i : ℕ) → i < w.len → get_or w.bytes i 0 ≡ get_or t i 0
  unfolding spelled
  byte-is i h = ap (λ (v : Spelling). get_or v.bytes i 0) e ∙ get_or-append t (replicate (15 - length t) SPACE) 0 i (subst (λ (v : Spelling). i < v.len) e h)

  pub byte_past : (i : ℕ) → w.len ≤ i → 0 ≡ get_or t i 0
  unfolding spelled
  byte_past i h = sym (get_or-eq_default t 0 {n = i} (subst (λ (v : Spelling). v.len ≤ i) e h))

-- ---- the parts of a number

module _ (x : Float) where
  pub digits-nan : parts_of x ≡ Nan → spelled [] ≡ spelled (nine_digits x)
  unfolding parts_of nine_digits
  digits-nan e = go x e
    where
      go : (y : Float) → parts_of y ≡ Nan → spelled [] ≡ spelled (nine_digits y)
      go nan f = refl
      go (inf s) f = cc
      go (fin s m e) f = cc

  pub digits-infinite : (s : Bool) → parts_of x ≡ Infinite s → spelled (nine_digits (inf s)) ≡ spelled (nine_digits x)
  unfolding parts_of
  digits-infinite s e = go x e
    where
      go : (y : Float) → parts_of y ≡ Infinite s → spelled (nine_digits (inf s)) ≡ spelled (nine_digits y)
      go nan f = cc
      go (inf t) f = cc
      go (fin t m e) f = cc

pub digits-finite : {x : Float} {s : Bool} {d k : ℕ} → Finite-parts x s d k → spelled (signed_text s (nine_text (nine_of (d * 2 ^ k)))) ≡ spelled (nine_digits x)
unfolding nine_digits
digits-finite {x} {s} p = ap (λ (n : ℕ). spelled (signed_text s (nine_text (nine_of n)))) (sym p.size) ∙ ap (λ (y : Float). spelled (nine_digits y)) (sym p.is)

-- ---- what is written reads as the number

-- the format holds every number that a word spells
data Held : Reading → Type 0 where
  number : {y : Float} → T (fits binary32 y) → Held (Ok y)
  many : Held (Err TooManyDigits)
  none : Held (Err NotANumber)

either : (b : Bool) {r s : Reading} → Held r → Held s → Held (cond b r s)
either true h g = h
either false h g = g

module _ (n : Bool) where
  decimal-held : (w f : ℕ) (down : Bool) (e : ℕ) → Held (decimal_read n w f down e)
  unfolding decimal_read decimal_of
  decimal-held w f down e =
      either (ltb w (10 ^ 19)) (number (cond-fits binary32 down (decimal_of n w 0 (f + e)) (decimal_of n w e f) (round-fits binary32 n (w * 10 ^ 0) (10 ^ (f + e))) (round-fits binary32 n (w * 10 ^ e) (10 ^ f)))) many

  digits-held : (w f : ℕ) (down : Bool) (bs : List ℕ) → Held (exponent_digits n w f down bs)
  unfolding exponent_digits
  digits-held w f down bs = either (eqb (digits_count bs) 0) none (either (ltb (digits_count bs) (length bs)) none (decimal-held w f down (digits_value 0 bs)))

  sign-held : (w f : ℕ) (bs : List ℕ) → Held (exponent_sign n w f bs)
  unfolding exponent_sign
  sign-held w f [] = none
  sign-held w f (b ∷ bs) = either (eqb b PLUS) (digits-held w f false bs) (either (eqb b MINUS) (digits-held w f true bs) (digits-held w f false (b ∷ bs)))

  part_held : (w f : ℕ) (bs : List ℕ) → Held (exponent_part n w f bs)
  unfolding exponent_part
  part_held w f [] = decimal-held w f false 0
  part_held w f (b ∷ bs) = either (eqb b 0x65 || eqb b 0x45) (sign-held w f bs) none

  no-point-held : (k w : ℕ) (bs : List ℕ) → Held (no_point n k w bs)
  unfolding no_point
  no-point-held k w bs = either (eqb k 0) none (part_held w 0 bs)

  point-held : (k w : ℕ) (bs : List ℕ) → Held (point_part n k w bs)
  unfolding point_part point_digits
  point-held k w [] = no-point-held k w []
  point-held k w (b ∷ bs) = either (eqb b POINT) (either (eqb (k + digits_count bs) 0) none (part_held (digits_value w bs) (digits_count bs) (after_digits bs))) (no-point-held k w (b ∷ bs))

  unsigned-held : (bs : List ℕ) → Held (unsigned n bs)
  unfolding unsigned decimal_word
  unsigned-held bs = either (is_inf bs) (number (inf-fits binary32 n)) (point-held (digits_count bs) (digits_value 0 bs) (after_digits bs))

after-held : (v : ℕ) (bs : List ℕ) → Held (bits_after v bs)
unfolding bits_after
after-held v [] = number (of_bits-fits binary32 v)
after-held v (b ∷ bs) = either (ltb (hex_value b) 16) (after-held (v * 16 + hex_value b) bs) none

reading-held : (bs : List ℕ) → Held (reading_of bs)
unfolding reading_of bits_word
reading-held [] = none
reading-held (b ∷ bs) =
    either (eqb b PLUS) (unsigned-held false bs)
    (either (eqb b MINUS) (unsigned-held true bs) (either (is_hex (b ∷ bs)) (either (eqb (length (b ∷ bs)) 10) (after-held 0 (drop 2 (b ∷ bs))) none) (unsigned-held false (b ∷ bs))))

module _ (x : Float) where
  same : T (fits binary32 x) → (r : Reading) → Held r → reads_as x r ≡ true → r ≡ Ok x
  unfolding reads_as
  same held (Ok y) (number h) e = ap Ok (sym (of_bits-to_bits binary32 y h) ∙ ap (of_bits binary32) (eqb-true (to_bits binary32 y) (to_bits binary32 x) e) ∙ of_bits-to_bits binary32 x held)
  same held (Err TooManyDigits) h e = absurd (subst T (sym e) tt)
  same held (Err NotANumber) h e = absurd (subst T (sym e) tt)

  pub the-nine : reads_as x (reading_of (nine_digits x)) ≡ true → nine_digits x ≡ spelled_text x
  unfolding spelled_text
  the-nine e = sym (ap (λ (b : Bool). cond b (nine_digits x) (bits_text (to_bits binary32 x))) e)

  pub the-bits : reads_as x (reading_of (nine_digits x)) ≡ false → bits_text (to_bits binary32 x) ≡ spelled_text x
  unfolding spelled_text
  the-bits e = sym (ap (λ (b : Bool). cond b (nine_digits x) (bits_text (to_bits binary32 x))) e)

  pub spelled-read-back : T (fits binary32 x) → reading_of (spelled_text x) ≡ Ok x
  unfolding spelled_text
  spelled-read-back held = go (reads_as x (reading_of (nine_digits x))) refl
    where
      go : (b : Bool) → reads_as x (reading_of (nine_digits x)) ≡ b → reading_of (cond b (nine_digits x) (bits_text (to_bits binary32 x))) ≡ Ok x
      go true e = same held (reading_of (nine_digits x)) (reading-held (nine_digits x)) e
      go false e = number-read-back x held

-- ---- how long it is

nine-long : (nine : Nine) → length (nine_text nine) ≡ 14
unfolding nine_text
nine-long nine = refl

nine-short : (x : Float) → length (nine_digits x) ≤ 15
unfolding nine_digits
nine-short nan = omega arith
nine-short (inf true) = omega arith
nine-short (inf false) = omega arith
nine-short (fin true m e) = omega (arith, nine-long (nine_of (units_of m e)))
nine-short (fin false m e) = omega (arith, nine-long (nine_of (units_of m e)))

pub spelled-short : (x : Float) → length (spelled_text x) ≤ 15
unfolding spelled_text bits_text hex_word
spelled-short x = go (reads_as x (reading_of (nine_digits x)))
  where
    go : (b : Bool) → length (cond b (nine_digits x) (bits_text (to_bits binary32 x))) ≤ 15
    go true = nine-short x
    go false = omega arith

pub word-short : (x : Float) {w : Spelling} → w ≡ spelled (spelled_text x) → w.len ≤ 15
unfolding spelled
word-short x e = subst (λ (v : Spelling). v.len ≤ 15) (sym e) (spelled-short x)
