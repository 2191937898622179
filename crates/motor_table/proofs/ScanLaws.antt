-- A record read in one pass (Scan) is the record that the grammar and the numbers say: `scan-is-read`. The other laws are a loop's
-- turns: a byte more, the record's end, a fault, the end of the bytes.
use Rattle.std.proofs.Common.{◌≡◌, ℕ, suc, ◌+◌, ◌-◌, ◌<◌, ◌≤◌, Bool, true, false, cond, ◌&&◌, List, [], ◌∷◌, length, get_or, drop, sym, refl, ap, ◌∙◌, add-one, arith, length-drop, drop_of_length-le, drop-cons, Result, Ok, Err}
use mathlib.Core.Option.{Option, none, some}
use native.Mathlib.Nat.{sub-zero}
use Rattle.motor_table.specs.Rfc4180.{Parsed, move_at, may_end, with_byte, with_field, record_from, first_record}
use Rattle.motor_table.specs.Rfc4180.Parsed.{fields, broken}
use Rattle.motor_table.specs.WholeNumber.{whole_number}
use Rattle.motor_table.specs.Records.{entry_of, three_numbers, read_numbers, read_fields, read_at}
use Rattle.motor_table.specs.Scan.{empty_field, push_of, is_number, number_in, start_fields, close_of, finish_of, start_scan, moved_of, step_of, end_of, scan_from}
use Rattle.motor_table.proofs.NumberLaws.{push_all, field_number, field-number}
use Rattle.motor_table.specs.declared.rfc4180.Place.{Place}
use Rattle.motor_table.specs.declared.rfc4180.Move.{Move}
use Rattle.motor_table.specs.declared.whole_number.Number.{Number}
use Rattle.motor_table.specs.declared.whole_number.Field.{Field}
use Rattle.motor_table.specs.declared.record.Fields.{Fields}
use Rattle.motor_table.specs.declared.record.Scan.{Scan}
use Rattle.motor_table.specs.declared.record.Step.{Step}
use Rattle.motor_table.specs.declared.record.RecordRead.{RecordRead}
use Rattle.motor_table.specs.declared.refusal.TableRefusal.{TableRefusal}
use Rattle.motor_table.specs.declared.refusal.TableRefusal.TheVariants.{Broken, NotThreeNumbers}

-- ---- one pass and the fields' bytes

close_all : Fields → List (List ℕ) → Fields
close_all e [] = e
close_all e (g ∷ gs) = close_all (close_of e (push_all empty_field g)) gs

-- what a scan comes to from what is left of the record's bytes, in a text of n bytes
result : ℕ → Fields → Field → Parsed → Result RecordRead TableRefusal
result n e f broken = Err Broken
result n e f (fields g gs rest) = finish_of (close_all (close_of e (push_all f g)) gs) (n - length rest)

result-byte : (n : ℕ) (e : Fields) (f : Field) (b : ℕ) (p : Parsed) → result n e f (with_byte b p) ≡ result n e (push_of f b) p
unfolding result with_byte push_all
result-byte n e f b (fields g gs rest) = refl
result-byte n e f b broken = refl

result-field : (n : ℕ) (e : Fields) (f : Field) (p : Parsed) → result n e f (with_field p) ≡ result n (close_of e f) empty_field p
unfolding result with_field push_all close_all
result-field n e f (fields g gs rest) = refl
result-field n e f broken = refl

at-end : (n : ℕ) (e : Fields) (f : Field) (t : Bool)
    → cond t (finish_of (close_of e f) n) (Err Broken) ≡ result n e f (cond t (fields [] [] []) broken)
unfolding result push_all close_all
at-end n e f true = ap (finish_of (close_of e f)) (sym (sub-zero n))
at-end n e f false = refl

abbrev scan : Place → Field → Fields → Scan
scan p f e = record { place = p; field = f; ended = e }

module _ (n : ℕ) (f : Field) (e : Fields) (b : ℕ) (bs : List ℕ)
    (later : (q : Place) (g : Field) (d : Fields) → scan_from n (scan q g d) bs ≡ result n d g (record_from q bs)) where
  scan-move : (p : Place) (m : Move)
      → (elim (moved_of (scan p f e) b m) [ Step.Going t ↦ scan_from n t bs | Step.Ended x ↦ finish_of x (n - length bs) | Step.Fault ↦ Err Broken ])
      ≡ result n e f
      (elim m [
        | Move.Take q ↦ with_byte b (record_from q bs)
        | Move.Skip q ↦ record_from q bs
        | Move.NextField ↦ with_field (record_from Place.FieldStart bs)
        | Move.End ↦ fields [] [] bs
        | Move.Fault ↦ broken
      ])
  unfolding moved_of result push_all close_all
  scan-move p (Move.Take q) = later q (push_of f b) e ∙ sym (result-byte n e f b (record_from q bs))
  scan-move p (Move.Skip q) = later q f e
  scan-move p Move.NextField =
      later Place.FieldStart empty_field (close_of e f) ∙ sym (result-field n e f (record_from Place.FieldStart bs))
  scan-move p Move.End = refl
  scan-move p Move.Fault = refl

scan-result : (n : ℕ) (p : Place) (f : Field) (e : Fields) (bs : List ℕ) → scan_from n (scan p f e) bs ≡ result n e f (record_from p bs)
unfolding scan_from record_from end_of
scan-result n p f e [] = at-end n e f (may_end p)
scan-result n p f e (b ∷ bs) = scan-move n f e b bs (λ q g d. scan-result n q g d bs) p (move_at p b)

-- ---- the fields' summaries and the three numbers

abbrev fields-of : ℕ → Field → Field → Field → Fields
fields-of n a b c = record { count = n; joint = a; axis = b; thousandths = c }

too_many : (next : ℕ) (a b c : Field) (gs : List (List ℕ)) → finish_of (close_all (fields-of 4 a b c) gs) next ≡ Err NotThreeNumbers
unfolding close_all finish_of close_of
too_many next a b c [] = refl
too_many next a b c (g ∷ gs) = too_many next a b c gs

abbrev num : Bool → Field → Option Number
num t f = cond t (some (number_in f)) none

three : (n : ℕ) (rest : List ℕ) (a b c : Field)
    → finish_of (fields-of 3 a b c) (n - length rest) ≡ read_numbers n rest (entry_of (field_number a) (field_number b) (field_number c))
unfolding finish_of read_numbers entry_of
three n rest a b c = go (is_number a) (is_number b) (is_number c)
  where
    go : (x y z : Bool)
        → cond (x && y && z)
        (Ok (record { entry = record { joint = number_in a; axis = number_in b; thousandths = number_in c }; next = n - length rest }))
        (Err NotThreeNumbers)
        ≡ read_numbers n rest (entry_of (num x a) (num y b) (num z c))
    go true true true = refl
    go true true false = refl
    go true false true = refl
    go true false false = refl
    go false true true = refl
    go false true false = refl
    go false false true = refl
    go false false false = refl

numbers : (n : ℕ) (rest f : List ℕ) (fs : List (List ℕ))
    → finish_of (close_all (close_of start_fields (push_all empty_field f)) fs) (n - length rest) ≡ read_numbers n rest (three_numbers (f ∷ fs))
unfolding close_all close_of finish_of read_numbers three_numbers
numbers n rest f [] = refl
numbers n rest f (g ∷ []) = refl
numbers n rest f (g ∷ h ∷ []) =
    three n rest (push_all empty_field f) (push_all empty_field g) (push_all empty_field h)
    ∙ ap (λ (x : Option Number). read_numbers n rest (entry_of x (field_number (push_all empty_field g)) (field_number (push_all empty_field h)))) (field-number f)
    ∙ ap (λ (x : Option Number). read_numbers n rest (entry_of (whole_number f) x (field_number (push_all empty_field h)))) (field-number g)
    ∙ ap (λ (x : Option Number). read_numbers n rest (entry_of (whole_number f) (whole_number g) x)) (field-number h)
numbers n rest f (g ∷ h ∷ k ∷ more) =
    too_many (n - length rest) (push_all empty_field f) (push_all empty_field g) (push_all empty_field h) more

result-read : (n : ℕ) (p : Parsed) → result n start_fields empty_field p ≡ read_fields n p
unfolding result read_fields
result-read n (fields f fs rest) = numbers n rest f fs
result-read n broken = refl

pub scan-is-read : (s : List ℕ) (at : ℕ) → scan_from (length s) start_scan (drop at s) ≡ read_at s at
scan-is-read s at =
    scan-result (length s) Place.FieldStart empty_field start_fields (drop at s) ∙ result-read (length s) (first_record (drop at s))

-- ---- the turns of a loop over a slice s, at position i

module _ (s : List ℕ) (i : ℕ) (v : Scan) (below : i < length s) where
  turn : (r : Step) → step_of v (get_or s i 0) ≡ r
      → scan_from (length s) v (drop i s)
      ≡ (elim r [
        | Step.Going t ↦ scan_from (length s) t (drop (suc i) s)
        | Step.Ended e ↦ finish_of e (length s - length (drop (suc i) s))
        | Step.Fault ↦ Err Broken
      ])
  unfolding scan_from
  turn r h =
      ap (scan_from (length s) v) (drop-cons s i 0 below)
      ∙ ap
      (λ (x : Step).
      elim x [
        | Step.Going t ↦ scan_from (length s) t (drop (suc i) s)
        | Step.Ended e ↦ finish_of e (length s - length (drop (suc i) s))
        | Step.Fault ↦ Err Broken
      ])
      h

  pub scan-going : (t : Scan) → step_of v (get_or s i 0) ≡ Step.Going t → scan_from (length s) v (drop i s) ≡ scan_from (length s) t (drop (i + 1) s)
  scan-going t h = turn (Step.Going t) h ∙ ap (λ (k : ℕ). scan_from (length s) t (drop k s)) (sym (add-one i))

  pub scan-ended : (e : Fields) → step_of v (get_or s i 0) ≡ Step.Ended e → scan_from (length s) v (drop i s) ≡ finish_of e (i + 1)
  scan-ended e h =
      turn (Step.Ended e) h ∙ ap (finish_of e) (let l = length-drop (suc i) s in omega (arith, l))

  pub scan-fault : step_of v (get_or s i 0) ≡ Step.Fault → scan_from (length s) v (drop i s) ≡ Err Broken
  scan-fault h = turn Step.Fault h

pub scan-end : (s : List ℕ) (i : ℕ) (v : Scan) → length s ≤ i → scan_from (length s) v (drop i s) ≡ end_of (length s) v
unfolding scan_from
scan-end s i v h = rw (drop_of_length-le s h)

pub scan-stop : (s : List ℕ) (i : ℕ) (v : Scan) → length s ≤ i → may_end v.place ≡ true
    → scan_from (length s) v (drop i s) ≡ finish_of (close_of v.ended v.field) (length s)
unfolding end_of
scan-stop s i v h e = scan-end s i v h ∙ simp e

pub scan-open : (s : List ℕ) (i : ℕ) (v : Scan) → length s ≤ i → may_end v.place ≡ false → scan_from (length s) v (drop i s) ≡ Err Broken
unfolding end_of
scan-open s i v h e = scan-end s i v h ∙ simp e
