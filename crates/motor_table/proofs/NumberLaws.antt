-- A field read byte by byte (Scan) is a whole number exactly where WholeNumber says so, and is that number.
use Rattle.std.proofs.Common.{◌≡◌, ℕ, ◌+◌, ◌-◌, ◌*◌, ◌<◌, ◌≤◌, Bool, true, false, cond, ◌&&◌, ◌||◌, eqb, leb, ◌⊎◌, List, [], ◌∷◌, sym, refl, ap, ◌∙◌, inl, inr, arith, eq-eqb, ne_eqb, le-leb, leb-false, leb-true}
use mathlib.Core.Option.{Option, none, some}
use borrow.Author.Tests.{lt-leb}
use Rattle.texts.specs.Ascii.{MINUS}
use Rattle.texts.specs.Digits.{is_digit}
use Rattle.motor_table.specs.WholeNumber.{largest_size, is_sign, number_of, digits_after, sized, unsigned, whole_number}
use Rattle.motor_table.specs.Scan.{empty_field, no_number, digits_field, grown, with_digit, with_sign, push_of, is_digits, is_number, number_in}
use Rattle.motor_table.specs.declared.whole_number.Number.{Number}
use Rattle.motor_table.specs.declared.whole_number.Field.{Field}
use Rattle.motor_table.specs.declared.whole_number.Spelling.TheVariants.{Sign}

unfoldable pub push_all : Field → List ℕ → Field
push_all f [] = f
push_all f (b ∷ bs) = push_all (push_of f b) bs

-- the number that a field holds
abbrev pub field_number : Field → Option Number
field_number f = cond (is_number f) (some (number_in f)) none

-- what is no number stays none
no-number-push : (b : ℕ) → push_of no_number b ≡ no_number
unfolding push_of with_digit with_sign
no-number-push b = go (is_digit b) (is_sign b)
  where
    go : (d s : Bool) → cond d (with_digit no_number.spelling no_number.minus no_number.size (b - 0x30)) (cond s (with_sign no_number.spelling (eqb b MINUS)) no_number) ≡ no_number
    go true s = refl
    go false true = refl
    go false false = refl

no_number_lem : (bs : List ℕ) → field_number (push_all no_number bs) ≡ none
unfolding push_all is_digits
no_number_lem [] = refl
no_number_lem (b ∷ bs) = ap (λ (f : Field). field_number (push_all f bs)) (no-number-push b) ∙ no_number_lem bs

-- the program's number beside the digits' own: the same up to the largest size, and both above it past it
Near : ℕ → ℕ → Type 0
Near n v = ((n ≤ largest_size) × (v ≡ n)) ⊎ ((largest_size < n) × (largest_size < v))

near-end : (m : Bool) (n v : ℕ) → Near n v → field_number (digits_field m n) ≡ sized m (some v)
unfolding Near is_digits sized
near-end m n v (inl h) = ap (λ (x : ℕ). cond (leb x largest_size) (some (number_of m x)) none) (sym h.1)
near-end m n v (inr h) = simp (lt-leb _ _ h.0, lt-leb _ _ h.1)

near_same : (n : ℕ) → Near n n
unfolding Near
near_same n = go (leb n largest_size) refl
  where
    go : (t : Bool) → leb n largest_size ≡ t → Near n n
    go true e = inl (leb-true n largest_size e, refl)
    go false e = inr (leb-false n largest_size e, leb-false n largest_size e)

near-digit : (m : Bool) (n v d : ℕ) → Near n v → (k : ℕ) × (grown m n d ≡ digits_field m k) × Near k (v * 10 + d)
unfolding Near grown
near-digit m n v d (inl h) = (n * 10 + d, simp (le-leb _ _ h.0), rw h.1 (near_same (n * 10 + d)))
near-digit m n v d (inr h) = (n, simp (lt-leb _ _ h.0), inr (h.0, omega (arith, h.1)))

-- one more byte: a digit, or what makes it no number
one_more : (m d s : Bool) (f : Field) (bs : List ℕ) (o : Option ℕ) → field_number (push_all f bs) ≡ sized m o
    → field_number (push_all (cond d f (cond s no_number no_number)) bs) ≡ sized m (cond d o none)
unfolding sized
one_more m true s f bs o h = h
one_more m false true f bs o h = no_number_lem bs
one_more m false false f bs o h = no_number_lem bs

digits-field : (m : Bool) (n v : ℕ) (bs : List ℕ) → Near n v → field_number (push_all (digits_field m n) bs) ≡ sized m (digits_after v bs)
unfolding push_all digits_after push_of with_digit with_sign
digits-field m n v [] h = near-end m n v h
digits-field m n v (b ∷ bs) h =
    let g = near-digit m n v (b - 0x30) h in
    one_more m (is_digit b) (is_sign b) (grown m n (b - 0x30)) bs (digits_after (v * 10 + (b - 0x30)) bs)
    (ap (λ (f : Field). field_number (push_all f bs)) g.1 ∙ digits-field m g.0 (v * 10 + (b - 0x30)) bs g.2)

pub digit-no-sign : (b : ℕ) → is_digit b ≡ true → is_sign b ≡ false
unfolding is_digit is_sign
digit-no-sign b h = go (leb 0x30 b) refl h
  where
    go : (t : Bool) → leb 0x30 b ≡ t → (t && leb b 0x39) ≡ true → (eqb b 0x2b || eqb b 0x2d) ≡ false
    go true e h' =
        let l : 0x30 ≤ b = leb-true 0x30 b e in
        simp (ne_eqb b 0x2b (λ q. omega arith), ne_eqb b 0x2d (λ q. omega arith))
    go false e h' = let z : false ≡ true = h' in cc

first-digit : (m : Bool) (d : ℕ) (bs : List ℕ) → field_number (push_all (grown m 0 d) bs) ≡ sized m (digits_after (0 * 10 + d) bs)
first-digit m d bs =
    let g = near-digit m 0 0 d (near_same 0) in
    ap (λ (f : Field). field_number (push_all f bs)) g.1 ∙ digits-field m g.0 (0 * 10 + d) bs g.2

-- after a sign
signed-field : (m : Bool) (bs : List ℕ) → field_number (push_all (record { spelling = Sign; minus = m; size = 0 }) bs) ≡ unsigned m bs
unfolding push_all push_of unsigned digits_after is_digits with_digit with_sign
signed-field m [] = refl
signed-field m (b ∷ bs) =
    one_more m (is_digit b) (is_sign b) (grown m 0 (b - 0x30)) bs (digits_after (0 * 10 + (b - 0x30)) bs) (first-digit m (b - 0x30) bs)

-- from a field's first byte: a digit, a sign, or neither
first_byte : (d s : Bool) (b : ℕ) (bs : List ℕ) → is_digit b ≡ d → is_sign b ≡ s
    → field_number (push_all (cond d (grown false 0 (b - 0x30)) (cond s (record { spelling = Sign; minus = eqb b MINUS; size = 0 }) no_number)) bs)
    ≡ cond s (unsigned (eqb b MINUS) bs) (sized false (cond d (digits_after (0 * 10 + (b - 0x30)) bs) none))
unfolding sized
first_byte true true b bs e f = let z : true ≡ false = sym f ∙ digit-no-sign b e in cc
first_byte true false b bs e f = first-digit false (b - 0x30) bs
first_byte false true b bs e f = signed-field (eqb b MINUS) bs
first_byte false false b bs e f = no_number_lem bs

pub field-number : (bs : List ℕ) → field_number (push_all empty_field bs) ≡ whole_number bs
unfolding push_all push_of whole_number unsigned digits_after is_digits with_digit with_sign
field-number [] = refl
field-number (b ∷ bs) = first_byte (is_digit b) (is_sign b) b bs refl refl

-- ---- the ways through the program's tests of a byte

pub is_digit_lem : (b : ℕ) → 0x30 ≤ b → b ≤ 0x39 → is_digit b ≡ true
unfolding is_digit
is_digit_lem b h k = simp (le-leb 0x30 b h, le-leb b 0x39 k)

pub past-digits : (b : ℕ) → 0x39 < b → (is_digit b ≡ false) × (is_sign b ≡ false)
unfolding is_digit is_sign
past-digits b h =
    (simp (le-leb 0x30 b (omega arith), lt-leb b 0x39 h), simp (ne_eqb b 0x2b (λ q. omega arith), ne_eqb b 0x2d (λ q. omega arith)))

pub before-digits : (b : ℕ) → b < 0x30 → is_digit b ≡ false
unfolding is_digit
before-digits b h = simp (lt-leb 0x30 b h)

pub is-plus : (b : ℕ) → b ≡ 0x2b → (is_sign b ≡ true) × (eqb b 0x2d ≡ false)
unfolding is_sign
is-plus b h = (simp (eq-eqb b 0x2b h), ne_eqb b 0x2d (λ q. omega arith))

pub is-minus : (b : ℕ) → (b ≡ 0x2b → ⊥) → b ≡ 0x2d → (is_sign b ≡ true) × (eqb b 0x2d ≡ true)
unfolding is_sign
is-minus b k h = (simp (ne_eqb b 0x2b k, eq-eqb b 0x2d h), eq-eqb b 0x2d h)

pub no_sign : (b : ℕ) → (b ≡ 0x2b → ⊥) → (b ≡ 0x2d → ⊥) → is_sign b ≡ false
unfolding is_sign
no_sign b k h = simp (ne_eqb b 0x2b k, ne_eqb b 0x2d h)
