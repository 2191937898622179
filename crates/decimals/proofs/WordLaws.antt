-- The parts of a word, byte by byte, as the program tests them at a position of the text.
use mathlib.Core.Path.{◌≡◌, refl, sym, ap, ◌∙◌}
use mathlib.Core.Bool.{Bool, true, false, cond}
use mathlib.Core.List.{List, [], ◌∷◌}
use Prim.Native.Nat.{ℕ, suc, ◌+◌, ◌-◌, ◌*◌, ◌^◌, ◌≤◌, ◌<◌}
use native.Mathlib.Nat.{add-zero, pow-suc, pow-le-pow_right}
use native.Mathlib.Numerals.{add-one}
use native.Mathlib.Omega.{arith}
use borrow.Author.Tests.{le-leb, lt-leb, lt-ltb, le-ltb, eq-eqb, ne_eqb}
use lib.Dec.{eqb}
use lib.ListN.{length, drop, get_or, length-drop, drop_of_length-le}
use lib.Seq.{drop-cons, drop-drop, get_or-drop}
use lib.Ieee.{Float, inf, binary32, of_bits, neg}
use Rattle.texts.specs.Ascii.{PLUS, MINUS, POINT}
use Rattle.texts.specs.Digits.{is_digit}
use Rattle.decimals.specs.Words.{digits_count, digits_value, after_digits, decimal_read, exponent_digits, exponent_sign, exponent_part, point_digits, no_point, point_part, decimal_word, hex_value, bits_after, is_hex, bits_word, is_inf, unsigned, reading_of}
use Rattle.std.proofs.Common.{Ok, Err}
use Rattle.decimals.specs.declared.number.NumberFault.TheVariants.{NotANumber}

pub at_byte : (t : List ℕ) (at : ℕ) → at < length t → drop at t ≡ get_or t at 0 ∷ drop (at + 1) t
at_byte t at h = drop-cons t at 0 h ∙ ap (λ (k : ℕ). get_or t at 0 ∷ drop k t) (sym (add-one at))

-- ---- digits stay inside the text
count-le : (bs : List ℕ) → digits_count bs ≤ length bs
unfolding digits_count
count-le [] = omega arith
count-le (b ∷ bs) = go (is_digit b) (count-le bs)
  where
    go : (d : Bool) → digits_count bs ≤ length bs → cond d (suc (digits_count bs)) 0 ≤ suc (length bs)
    go true h = omega arith
    go false h = omega arith

pub count-inside : (t : List ℕ) (at : ℕ) → at ≤ length t → at + digits_count (drop at t) ≤ length t
count-inside t at h = omega (arith, count-le (drop at t), length-drop at t)

-- ---- the exponent's digits
module _ (s : Bool) (w f : ℕ) (down : Bool) (t : List ℕ) (at end : ℕ) (inside : at ≤ length t) (e : end ≡ at + digits_count (drop at t)) where
  pub digits-none : end ≡ at → (Err NotANumber) ≡ exponent_digits s w f down (drop at t)
  unfolding exponent_digits
  digits-none z = simp (eq-eqb (digits_count (drop at t)) 0 (omega arith))

  pub digits_more : (end ≡ at → ⊥) → end < length t → (Err NotANumber) ≡ exponent_digits s w f down (drop at t)
  unfolding exponent_digits
  digits_more z h =
      simp (ne_eqb (digits_count (drop at t)) 0 (λ q. z (omega arith)), lt-ltb (digits_count (drop at t)) (length (drop at t)) (omega (arith, length-drop at t)))

  pub digits-all : (end ≡ at → ⊥) → length t ≤ end → decimal_read s w f down (digits_value 0 (drop at t)) ≡ exponent_digits s w f down (drop at t)
  unfolding exponent_digits
  digits-all z h =
      simp (ne_eqb (digits_count (drop at t)) 0 (λ q. z (omega arith)), le-ltb (digits_count (drop at t)) (length (drop at t)) (omega (arith, length-drop at t)))

-- ---- the exponent's sign, and its letter
module _ (s : Bool) (w f : ℕ) (t : List ℕ) (at : ℕ) (below : at < length t) where
  pub sign-plus : get_or t at 0 ≡ PLUS → exponent_digits s w f false (drop (at + 1) t) ≡ exponent_sign s w f (drop at t)
  unfolding exponent_sign
  sign-plus h = sym (ap (exponent_sign s w f) (at_byte t at below) ∙ simp (eq-eqb (get_or t at 0) PLUS h))

  pub sign-minus : (get_or t at 0 ≡ PLUS → ⊥) → get_or t at 0 ≡ MINUS → exponent_digits s w f true (drop (at + 1) t) ≡ exponent_sign s w f (drop at t)
  unfolding exponent_sign
  sign-minus n h = sym (ap (exponent_sign s w f) (at_byte t at below) ∙ simp (ne_eqb (get_or t at 0) PLUS n, eq-eqb (get_or t at 0) MINUS h))

  pub sign-none : (get_or t at 0 ≡ PLUS → ⊥) → (get_or t at 0 ≡ MINUS → ⊥) → exponent_digits s w f false (drop at t) ≡ exponent_sign s w f (drop at t)
  unfolding exponent_sign
  sign-none n m =
      ap (exponent_digits s w f false) (at_byte t at below)
      ∙ sym (ap (exponent_sign s w f) (at_byte t at below) ∙ simp (ne_eqb (get_or t at 0) PLUS n, ne_eqb (get_or t at 0) MINUS m))

  pub letter : (get_or t at 0 ≡ 0x65) → exponent_sign s w f (drop (at + 1) t) ≡ exponent_part s w f (drop at t)
  unfolding exponent_part
  letter h = sym (ap (exponent_part s w f) (at_byte t at below) ∙ simp (eq-eqb (get_or t at 0) 0x65 h))

  pub capital : (get_or t at 0 ≡ 0x65 → ⊥) → get_or t at 0 ≡ 0x45 → exponent_sign s w f (drop (at + 1) t) ≡ exponent_part s w f (drop at t)
  unfolding exponent_part
  capital n h = sym (ap (exponent_part s w f) (at_byte t at below) ∙ simp (ne_eqb (get_or t at 0) 0x65 n, eq-eqb (get_or t at 0) 0x45 h))

  pub no-letter : (get_or t at 0 ≡ 0x65 → ⊥) → (get_or t at 0 ≡ 0x45 → ⊥) → (Err NotANumber) ≡ exponent_part s w f (drop at t)
  unfolding exponent_part
  no-letter n m = sym (ap (exponent_part s w f) (at_byte t at below) ∙ simp (ne_eqb (get_or t at 0) 0x65 n, ne_eqb (get_or t at 0) 0x45 m))

pub sign-end : (s : Bool) (w f : ℕ) (t : List ℕ) (at : ℕ) → length t ≤ at → (Err NotANumber) ≡ exponent_sign s w f (drop at t)
unfolding exponent_sign
sign-end s w f t at h = sym (ap (exponent_sign s w f) (drop_of_length-le t h))

pub part_end : (s : Bool) (w f : ℕ) (t : List ℕ) (at : ℕ) → length t ≤ at → decimal_read s w f false 0 ≡ exponent_part s w f (drop at t)
unfolding exponent_part
part_end s w f t at h = sym (ap (exponent_part s w f) (drop_of_length-le t h))

-- ---- the point
module _ (s : Bool) (n w : ℕ) (t : List ℕ) (at end : ℕ) (e : end ≡ at + digits_count (drop at t)) where
  pub after-digits : drop end t ≡ after_digits (drop at t)
  after-digits = ap (λ (k : ℕ). drop k t) e ∙ sym (drop-drop (digits_count (drop at t)) at t)

  pub count-is : end - at ≡ digits_count (drop at t)
  count-is = omega arith

  pub point-none : n + (end - at) ≡ 0 → (Err NotANumber) ≡ point_digits s n w (drop at t)
  unfolding point_digits
  point-none z = simp (eq-eqb (n + digits_count (drop at t)) 0 (omega arith))

  pub point-some : (n + (end - at) ≡ 0 → ⊥) → exponent_part s (digits_value w (drop at t)) (end - at) (drop end t) ≡ point_digits s n w (drop at t)
  unfolding point_digits
  point-some z =
      ap (λ (k : ℕ). exponent_part s (digits_value w (drop at t)) k (drop end t)) count-is
      ∙ ap (exponent_part s (digits_value w (drop at t)) (digits_count (drop at t))) after-digits
      ∙ simp (ne_eqb (n + digits_count (drop at t)) 0 (λ q. z (omega arith)))

pub nothing-before : (s : Bool) (n w : ℕ) (bs : List ℕ) → n ≡ 0 → (Err NotANumber) ≡ no_point s n w bs
unfolding no_point
nothing-before s n w bs z = simp (eq-eqb n 0 z)

pub something-before : (s : Bool) (n w : ℕ) (bs : List ℕ) → (n ≡ 0 → ⊥) → exponent_part s w 0 bs ≡ no_point s n w bs
unfolding no_point
something-before s n w bs z = simp (ne_eqb n 0 z)

module _ (s : Bool) (t : List ℕ) (at end : ℕ) (e : end ≡ at + digits_count (drop at t)) where
  at-end : point_part s (end - at) (digits_value 0 (drop at t)) (drop end t) ≡ decimal_word s (drop at t)
  unfolding decimal_word
  at-end =
      ap (λ (k : ℕ). point_part s k (digits_value 0 (drop at t)) (drop end t)) (count-is s 0 0 t at end e)
      ∙ ap (point_part s (digits_count (drop at t)) (digits_value 0 (drop at t))) (after-digits s 0 0 t at end e)

  pub has-point : end < length t → get_or t end 0 ≡ POINT → point_digits s (end - at) (digits_value 0 (drop at t)) (drop (end + 1) t) ≡ decimal_word s (drop at t)
  unfolding point_part
  has-point below h = sym (ap (point_part s (end - at) (digits_value 0 (drop at t))) (at_byte t end below) ∙ simp (eq-eqb (get_or t end 0) POINT h)) ∙ at-end

  pub has-none : end < length t → (get_or t end 0 ≡ POINT → ⊥) → no_point s (end - at) (digits_value 0 (drop at t)) (drop end t) ≡ decimal_word s (drop at t)
  unfolding point_part
  has-none below h =
      ap (no_point s (end - at) (digits_value 0 (drop at t))) (at_byte t end below)
      ∙ sym (ap (point_part s (end - at) (digits_value 0 (drop at t))) (at_byte t end below) ∙ simp (ne_eqb (get_or t end 0) POINT h))
      ∙ at-end

  pub has_end : length t ≤ end → no_point s (end - at) (digits_value 0 (drop at t)) (drop end t) ≡ decimal_word s (drop at t)
  unfolding point_part
  has_end h =
      ap (no_point s (end - at) (digits_value 0 (drop at t))) (drop_of_length-le t h)
      ∙ sym (ap (point_part s (end - at) (digits_value 0 (drop at t))) (drop_of_length-le t h))
      ∙ at-end

-- ---- hexadecimal digits
module _ (t : List ℕ) (i v : ℕ) where
  pub bits-digit : i < length t → hex_value (get_or t i 0) < 16 → bits_after (v * 16 + hex_value (get_or t i 0)) (drop (i + 1) t) ≡ bits_after v (drop i t)
  unfolding bits_after
  bits-digit below h = sym (ap (bits_after v) (at_byte t i below) ∙ simp (lt-ltb (hex_value (get_or t i 0)) 16 h))

  pub bits-fault : i < length t → 16 ≤ hex_value (get_or t i 0) → (Err NotANumber) ≡ bits_after v (drop i t)
  unfolding bits_after
  bits-fault below h = sym (ap (bits_after v) (at_byte t i below) ∙ simp (le-ltb (hex_value (get_or t i 0)) 16 h))

  pub bits-end : length t ≤ i → Ok (of_bits binary32 v) ≡ bits_after v (drop i t)
  unfolding bits_after
  bits-end h = sym (ap (bits_after v) (drop_of_length-le t h))

-- so many digits make a number below that power of 16
pub hex-more : (v d i : ℕ) → 2 ≤ i → v < 16 ^ (i - 2) → d < 16 → v * 16 + d < 16 ^ (i + 1 - 2)
hex-more v d i low h l = rw (next ∙ pow-suc 16 (i - 2)) (omega arith)
  where
    next : 16 ^ (i + 1 - 2) ≡ 16 ^ suc (i - 2)
    next = ap (λ (x : ℕ). 16 ^ x) (omega arith)

pub hex-room : (v d i : ℕ) → i < 10 → v < 16 ^ (i - 2) → d < 16 → v * 16 + d < 2 ^ 32
hex-room v d i small h l = let p : 16 ^ (i - 2) ≤ 16 ^ 7 = pow-le-pow_right (omega arith) {i = i - 2} {j = 7} (omega arith) in omega arith

-- the tests of a byte
module _ (b : ℕ) where
  pub hex-low : b < 0x30 → 16 ≡ hex_value b
  unfolding hex_value
  hex-low h = simp (lt-leb 0x30 b h, lt-leb 0x41 b (omega arith), lt-leb 0x61 b (omega arith))

  pub hex-decimal : 0x30 ≤ b → b ≤ 0x39 → b - 0x30 ≡ hex_value b
  unfolding hex_value
  hex-decimal h k = simp (le-leb 0x30 b h, le-leb b 0x39 k)

  pub hex-between : 0x39 < b → b < 0x41 → 16 ≡ hex_value b
  unfolding hex_value
  hex-between h k = simp (le-leb 0x30 b (omega arith), lt-leb b 0x39 h, lt-leb 0x41 b k, lt-leb 0x61 b (omega arith))

  pub hex-upper : 0x41 ≤ b → b ≤ 0x46 → b - 0x37 ≡ hex_value b
  unfolding hex_value
  hex-upper h k = simp (le-leb 0x30 b (omega arith), lt-leb b 0x39 (omega arith), le-leb 0x41 b h, le-leb b 0x46 k)

  pub hex-between-cases : 0x46 < b → b < 0x61 → 16 ≡ hex_value b
  unfolding hex_value
  hex-between-cases h k = simp (le-leb 0x30 b (omega arith), lt-leb b 0x39 (omega arith), le-leb 0x41 b (omega arith), lt-leb b 0x46 h, lt-leb 0x61 b k)

  pub hex-lower : 0x61 ≤ b → b ≤ 0x66 → b - 0x57 ≡ hex_value b
  unfolding hex_value
  hex-lower h k = simp (le-leb 0x30 b (omega arith), lt-leb b 0x39 (omega arith), le-leb 0x41 b (omega arith), lt-leb b 0x46 (omega arith), le-leb 0x61 b h, le-leb b 0x66 k)

  pub hex-high : 0x66 < b → 16 ≡ hex_value b
  unfolding hex_value
  hex-high h = simp (le-leb 0x30 b (omega arith), lt-leb b 0x39 (omega arith), le-leb 0x41 b (omega arith), lt-leb b 0x46 (omega arith), le-leb 0x61 b (omega arith), lt-leb b 0x66 h)

-- ---- 0x
module _ (t : List ℕ) where
  pub hex-short : length t < 2 → false ≡ is_hex t
  unfolding is_hex
  hex-short h = simp (lt-leb 2 (length t) h)

  pub hex-no-zero : 2 ≤ length t → (get_or t 0 0 ≡ 0x30 → ⊥) → false ≡ is_hex t
  unfolding is_hex
  hex-no-zero h n = simp (le-leb 2 (length t) h, ne_eqb (get_or t 0 0) 0x30 n)

  pub hex-zero : 2 ≤ length t → get_or t 0 0 ≡ 0x30 → eqb (get_or t 1 0) 0x78 ≡ is_hex t
  unfolding is_hex
  hex-zero h e = simp (le-leb 2 (length t) h, eq-eqb (get_or t 0 0) 0x30 e)

  pub bits-ten : length t ≡ 10 → bits_after 0 (drop 2 t) ≡ bits_word t
  unfolding bits_word
  bits-ten h = simp (eq-eqb (length t) 10 h)

  pub bits-other : (length t ≡ 10 → ⊥) → (Err NotANumber) ≡ bits_word t
  unfolding bits_word
  bits-other h = simp (ne_eqb (length t) 10 h)

-- ---- inf
first-at : (t : List ℕ) (at : ℕ) → get_or (drop at t) 0 0 ≡ get_or t at 0
first-at t at = get_or-drop at t 0 0 ∙ ap (λ (k : ℕ). get_or t k 0) (add-zero at)

module _ (t : List ℕ) (at : ℕ) where
  pub inf-length : (length t - at ≡ 3 → ⊥) → false ≡ is_inf (drop at t)
  unfolding is_inf
  inf-length n = simp (ne_eqb (length (drop at t)) 3 (λ q. n (sym (length-drop at t) ∙ q)))

  pub inf-first : length t - at ≡ 3 → (get_or t at 0 ≡ 0x69 → ⊥) → false ≡ is_inf (drop at t)
  unfolding is_inf
  inf-first h n = simp (eq-eqb (length (drop at t)) 3 (length-drop at t ∙ h), ne_eqb (get_or (drop at t) 0 0) 0x69 (λ q. n (sym (first-at t at) ∙ q)))

  pub inf-second : length t - at ≡ 3 → get_or t at 0 ≡ 0x69 → (get_or t (at + 1) 0 ≡ 0x6e → ⊥) → false ≡ is_inf (drop at t)
  unfolding is_inf
  inf-second h e n =
      simp (eq-eqb (length (drop at t)) 3 (length-drop at t ∙ h), eq-eqb (get_or (drop at t) 0 0) 0x69 (first-at t at ∙ e), ne_eqb (get_or (drop at t) 1 0) 0x6e (λ q. n (sym (get_or-drop at t 1 0) ∙ q)))

  pub inf-third : length t - at ≡ 3 → get_or t at 0 ≡ 0x69 → get_or t (at + 1) 0 ≡ 0x6e → eqb (get_or t (at + 2) 0) 0x66 ≡ is_inf (drop at t)
  unfolding is_inf
  inf-third h e f =
      ap (λ (b : ℕ). eqb b 0x66) (sym (get_or-drop at t 2 0))
      ∙ simp (eq-eqb (length (drop at t)) 3 (length-drop at t ∙ h), eq-eqb (get_or (drop at t) 0 0) 0x69 (first-at t at ∙ e), eq-eqb (get_or (drop at t) 1 0) 0x6e (get_or-drop at t 1 0 ∙ f))

infinite : (s : Bool) → cond s (neg (inf false)) (inf false) ≡ inf s
unfolding neg
infinite true = refl
infinite false = refl

pub word-inf : (s : Bool) (x : Float) (bs : List ℕ) → x ≡ inf false → is_inf bs ≡ true → Ok (cond s (neg x) x) ≡ unsigned s bs
unfolding unsigned
word-inf s x bs e h = ap (λ (y : Float). Ok (cond s (neg y) y)) e ∙ ap Ok (infinite s) ∙ simp h

pub word-decimal : (s : Bool) (bs : List ℕ) → is_inf bs ≡ false → decimal_word s bs ≡ unsigned s bs
unfolding unsigned
word-decimal s bs h = simp h

-- ---- a whole word
pub word-empty : (t : List ℕ) → length t ≡ 0 → (Err NotANumber) ≡ reading_of t
unfolding reading_of
word-empty [] h = refl
word-empty (b ∷ bs) h = absurd (omega arith)

module _ (t : List ℕ) (some : length t ≡ 0 → ⊥) where
  first : t ≡ get_or t 0 0 ∷ drop 1 t
  first = at_byte t 0 (omega (arith, some))

  pub word-plus : get_or t 0 0 ≡ PLUS → unsigned false (drop 1 t) ≡ reading_of t
  unfolding reading_of
  word-plus h = sym (ap reading_of first ∙ simp (eq-eqb (get_or t 0 0) PLUS h))

  pub word-minus : (get_or t 0 0 ≡ PLUS → ⊥) → get_or t 0 0 ≡ MINUS → unsigned true (drop 1 t) ≡ reading_of t
  unfolding reading_of
  word-minus n h = sym (ap reading_of first ∙ simp (ne_eqb (get_or t 0 0) PLUS n, eq-eqb (get_or t 0 0) MINUS h))

  neither : (get_or t 0 0 ≡ PLUS → ⊥) → (get_or t 0 0 ≡ MINUS → ⊥) → cond (is_hex t) (bits_word t) (unsigned false t) ≡ reading_of t
  unfolding reading_of
  neither n m =
      ap (λ (l : List ℕ). cond (is_hex l) (bits_word l) (unsigned false l)) first
      ∙ sym (ap reading_of first ∙ simp (ne_eqb (get_or t 0 0) PLUS n, ne_eqb (get_or t 0 0) MINUS m))

  pub word-bits : (get_or t 0 0 ≡ PLUS → ⊥) → (get_or t 0 0 ≡ MINUS → ⊥) → is_hex t ≡ true → bits_word t ≡ reading_of t
  word-bits n m h = sym (ap (λ (x : Bool). cond x (bits_word t) (unsigned false t)) h) ∙ neither n m

  pub word-other : (get_or t 0 0 ≡ PLUS → ⊥) → (get_or t 0 0 ≡ MINUS → ⊥) → is_hex t ≡ false → unsigned false t ≡ reading_of t
  word-other n m h = sym (ap (λ (x : Bool). cond x (bits_word t) (unsigned false t)) h) ∙ neither n m
