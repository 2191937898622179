-- The texts of numbers and records, their lengths, and the records that are left from one on.
use Rattle.std.proofs.Common.{◌≡◌, ℕ, suc, ◌+◌, ◌-◌, ◌*◌, ◌/◌, ◌^◌, ◌<◌, ◌≤◌, Bool, true, false, cond, ◌&&◌, ltb, leb, List, [], ◌∷◌, ◌++◌, length, sym, refl, ap, ◌∙◌, div-add-mod', arith, length-append, le-ltb, le-leb, leb-true}
use native.Mathlib.Nat.{sub-zero}
use borrow.Author.Tests.{lt-leb}
use Rattle.texts.specs.Ascii.{MINUS}
use Rattle.texts.specs.Digits.{decimal}
use Rattle.texts.proofs.DigitsLaws.{decimal-short}
use Rattle.motor_table.specs.WholeNumber.{largest_size}
use Rattle.motor_table.specs.Text.{number_text, field_text, last_field_text, record_text, text_of, word_number, entry_at, entries_from, records_in, entries_of, is_sized}
use Rattle.motor_table.specs.declared.whole_number.Number.{Number}
use Rattle.motor_table.specs.declared.record.Entry.{Entry}

-- ---- numbers and records

pub minus-text : (n : Number) → n.negative ≡ true → number_text n ≡ MINUS ∷ decimal n.size
unfolding number_text
minus-text n h = ap (λ (t : Bool). cond t (MINUS ∷ decimal n.size) (decimal n.size)) h

pub plain-text : (n : Number) → n.negative ≡ false → number_text n ≡ decimal n.size
unfolding number_text
plain-text n h = ap (λ (t : Bool). cond t (MINUS ∷ decimal n.size) (decimal n.size)) h

pub number_short : (n : Number) → length (number_text n) ≤ n.size + 2
unfolding number_text
number_short n = go n.negative
  where
    go : (t : Bool) → length (cond t (MINUS ∷ decimal n.size) (decimal n.size)) ≤ n.size + 2
    go true = omega (arith, decimal-short n.size)
    go false = omega (arith, decimal-short n.size)

field-length : (n : Number) → length (field_text n) ≡ length (number_text n) + 1
field-length n = length-append (number_text n) _

last-field-length : (n : Number) → length (last_field_text n) ≡ length (number_text n) + 2
last-field-length n = length-append (number_text n) _

pub record-length : (e : Entry) → length (record_text e) ≡ length (number_text e.joint) + length (number_text e.axis) + length (number_text e.thousandths) + 4
unfolding record_text
record-length e =
    let a = length-append (field_text e.joint) (field_text e.axis ++ last_field_text e.thousandths) in
    let b = length-append (field_text e.axis) (last_field_text e.thousandths) in
    omega (arith, field-length e.joint, field-length e.axis, last-field-length e.thousandths)

record Sized (e : Entry) : Type 0 where
  pub joint : e.joint.size ≤ largest_size
  pub axis : e.axis.size ≤ largest_size
  pub thousandths : e.thousandths.size ≤ largest_size

both : (a b : Bool) → (a && b) ≡ true → (a ≡ true) × (b ≡ true)
both true b h = (refl, h)
both false b h = (h, cc)

sized-parts : (e : Entry) → is_sized e ≡ true → Sized e
sized-parts e h =
    let p = both (leb e.joint.size largest_size && leb e.axis.size largest_size) (leb e.thousandths.size largest_size) h in
    let q = both (leb e.joint.size largest_size) (leb e.axis.size largest_size) p.0 in
    record { joint = leb-true _ _ q.0; axis = leb-true _ _ q.1; thousandths = leb-true _ _ p.1 }

pub record-short : (e : Entry) → is_sized e ≡ true → length (record_text e) ≤ 30000000
record-short e h =
    let s = sized-parts e h in
    omega (arith, record-length e, number_short e.joint, number_short e.axis, number_short e.thousandths, s.joint, s.axis, s.thousandths)

-- the last of the tests of a record's sizes
pub sized-by-thousandths : (e : Entry) → e.joint.size ≤ largest_size → e.axis.size ≤ largest_size
    → leb e.thousandths.size largest_size ≡ is_sized e
sized-by-thousandths e h k = simp (le-leb _ _ h, le-leb _ _ k)

pub not-sized-joint : (e : Entry) → largest_size < e.joint.size → false ≡ is_sized e
not-sized-joint e h = simp (lt-leb _ _ h)

pub not-sized-axis : (e : Entry) → e.joint.size ≤ largest_size → largest_size < e.axis.size → false ≡ is_sized e
not-sized-axis e h k = simp (le-leb _ _ h, lt-leb _ _ k)

-- ---- two's complement

pub high_word : (w : ℕ) → 2 ^ 31 ≤ w → w < 2 ^ 32 → ◌≡◌ {A = Number} (record { negative = true; size = 4294967295 - w + 1 }) (word_number w)
unfolding word_number
high_word w h k =
    let e : 4294967295 - w + 1 ≡ 2 ^ 32 - w = omega arith in
    let t : ltb w (2 ^ 31) ≡ false = le-ltb w (2 ^ 31) h in
    ap (λ (n : ℕ). record { negative = true; size = n }) e
    ∙ sym (ap (λ (b : Bool). cond b (record { negative = false; size = w }) (record { negative = true; size = 2 ^ 32 - w })) t)

-- ---- the records from one on

pub rest-text : List ℕ → ℕ → List ℕ
rest-text ws k = text_of (entries_from ws k (records_in ws - k))

pub rest-none : (ws : List ℕ) (k : ℕ) → records_in ws ≤ k → rest-text ws k ≡ []
unfolding rest-text entries_from text_of
rest-none ws k h =
    let z : records_in ws - k ≡ 0 = omega arith in
    ap (λ (n : ℕ). text_of (entries_from ws k n)) z

pub rest_all : (ws : List ℕ) → rest-text ws 0 ≡ text_of (entries_of ws)
unfolding rest-text
rest_all ws = ap (λ (n : ℕ). text_of (entries_from ws 0 n)) (sub-zero (records_in ws))

pub rest_more : (ws : List ℕ) (k : ℕ) → k < records_in ws → rest-text ws k ≡ record_text (entry_at ws k) ++ rest-text ws (k + 1)
unfolding rest-text entries_from text_of
rest_more ws k h =
    let z : records_in ws - k ≡ suc (records_in ws - (k + 1)) = omega arith in
    ap (λ (n : ℕ). text_of (entries_from ws k n)) z

pub thirds : (n : ℕ) → (n / 3) * 3 ≤ n
thirds n = omega (arith, div-add-mod' n 3)
