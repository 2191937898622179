-- A table record by record, for a walk over a slice: where a record starts at position `at` of s, what the table from there on is, by
-- what `read_at` says of that record. `record-rest` is the law of positions: what follows the record is what stands at the next position.
use Rattle.std.proofs.Common.{◌≡◌, ℕ, zero, suc, ◌+◌, ◌-◌, ◌<◌, ◌≤◌, Bool, true, false, cond, List, [], ◌∷◌, length, drop, sym, refl, ap, ◌∙◌, add-zero, arith, length-drop, drop_of_length-le, drop-drop, Result, Ok, Err}
use mathlib.Core.Option.{Option, none, some}
use Rattle.motor_table.specs.Rfc4180.{Parsed, move_at, may_end, with_byte, with_field, record_from, first_record}
use Rattle.motor_table.specs.Rfc4180.Parsed.{fields, broken}
use Rattle.motor_table.specs.Records.{three_numbers, is_present, read_numbers, read_fields, read_at}
use Rattle.motor_table.specs.Tables.{Table, after, checked, unless_empty, read_from, table_answer}
use Rattle.motor_table.specs.Tables.Table.{granted, refused}
use Rattle.motor_table.specs.declared.rfc4180.Place.{Place}
use Rattle.motor_table.specs.declared.rfc4180.Move.{Move}
use Rattle.motor_table.specs.declared.record.Entry.{Entry}
use Rattle.motor_table.specs.declared.record.RecordRead.{RecordRead}
use Rattle.motor_table.specs.declared.refusal.TableRefusal.{TableRefusal}
use Rattle.motor_table.specs.declared.refusal.TableRefusal.TheVariants.{Broken, Absent}

-- ---- what follows a record is the end of the bytes that it was read from

Ending : List ℕ → Parsed → Type 0
Ending bs broken = Unit {0}
Ending bs (fields f fs rest) = (k : ℕ) × (rest ≡ drop k bs) × (k ≤ length bs)

ending-byte : (b c : ℕ) (bs : List ℕ) (p : Parsed) → Ending bs p → Ending (b ∷ bs) (with_byte c p)
unfolding Ending with_byte
ending-byte b c bs (fields f fs rest) h = (suc h.0, h.1, omega (arith, h.2))
ending-byte b c bs broken h = tt

ending-field : (b : ℕ) (bs : List ℕ) (p : Parsed) → Ending bs p → Ending (b ∷ bs) (with_field p)
unfolding Ending with_field
ending-field b bs (fields f fs rest) h = (suc h.0, h.1, omega (arith, h.2))
ending-field b bs broken h = tt

ending_skip : (b : ℕ) (bs : List ℕ) (p : Parsed) → Ending bs p → Ending (b ∷ bs) p
unfolding Ending
ending_skip b bs (fields f fs rest) h = (suc h.0, h.1, omega (arith, h.2))
ending_skip b bs broken h = tt

ending-end : (t : Bool) → Ending [] (cond t (fields [] [] []) broken)
unfolding Ending
ending-end true = (0, refl, omega arith)
ending-end false = tt

ending-move : (b : ℕ) (bs : List ℕ) (later : (q : Place) → Ending bs (record_from q bs)) (m : Move)
    → Ending (b ∷ bs)
    (elim m [
      | Move.Take q ↦ with_byte b (record_from q bs)
      | Move.Skip q ↦ record_from q bs
      | Move.NextField ↦ with_field (record_from Place.FieldStart bs)
      | Move.End ↦ fields [] [] bs
      | Move.Fault ↦ broken
    ])
unfolding Ending
ending-move b bs later (Move.Take q) = ending-byte b b bs (record_from q bs) (later q)
ending-move b bs later (Move.Skip q) = ending_skip b bs (record_from q bs) (later q)
ending-move b bs later Move.NextField = ending-field b bs (record_from Place.FieldStart bs) (later Place.FieldStart)
ending-move b bs later Move.End = (1, refl, omega arith)
ending-move b bs later Move.Fault = tt

ending : (p : Place) (bs : List ℕ) → Ending bs (record_from p bs)
unfolding record_from
ending p [] = ending-end (may_end p)
ending p (b ∷ bs) = ending-move b bs (λ q. ending q bs) (move_at p b)

-- the position after the record is that of what follows it
record-rest : (s : List ℕ) (at : ℕ) → at ≤ length s → (p : Parsed) → Ending (drop at s) p
    → (f : List ℕ) (fs : List (List ℕ)) (rest : List ℕ) → p ≡ fields f fs rest → rest ≡ drop (length s - length rest) s
unfolding Ending
record-rest s at h broken e f fs rest q = cc
record-rest s at h (fields g gs rest') e f fs rest q =
    let same : rest' ≡ rest = cc in
    let there : rest ≡ drop (at + e.0) s = sym same ∙ e.1 ∙ drop-drop e.0 at s in
    let long : length rest ≡ length s - (at + e.0) = ap length there ∙ length-drop (at + e.0) s in
    let fits : at + e.0 ≤ length s = omega (arith, e.2, length-drop at s) in
    let next : length s - length rest ≡ at + e.0 = omega arith in
    there ∙ sym (ap (λ (n : ℕ). drop n s) next)

-- ---- a walk over a slice

-- the table from a record on, by what the record is: so many more may come after it
unfoldable pub turn : ℕ → ℕ → List ℕ → Result RecordRead TableRefusal → Table
turn joints left s (Ok r) = cond (is_present joints r.entry) (after r.entry (read_from joints left (drop r.next s))) (refused Absent)
turn joints left s (Err f) = refused f

more : (bs : List ℕ) (t : Table) → 0 < length bs → unless_empty bs t ≡ t
unfolding unless_empty
more [] t h = absurd (let z : ⊥ = omega arith in z)
more (b ∷ bs) t h = refl

left_over : (s : List ℕ) (at : ℕ) → at < length s → 0 < length (drop at s)
left_over s at h = omega (arith, length-drop at s)

turn-numbers : (joints left : ℕ) (s rest : List ℕ) → rest ≡ drop (length s - length rest) s
    → (o : Option Entry) → checked joints o (read_from joints left rest) ≡ turn joints left s (read_numbers (length s) rest o)
unfolding checked turn read_numbers
turn-numbers joints left s rest h none = refl
turn-numbers joints left s rest h (some e) =
    ap (λ (l : List ℕ). cond (is_present joints e) (after e (read_from joints left l)) (refused Absent)) h

turn-fields : (joints left : ℕ) (s : List ℕ) (at : ℕ) → at ≤ length s → (p : Parsed) → Ending (drop at s) p
    → (elim p [ broken ↦ refused Broken | fields f fs rest ↦ checked joints (three_numbers (f ∷ fs)) (read_from joints left rest) ])
    ≡ turn joints left s (read_fields (length s) p)
unfolding turn read_fields
turn-fields joints left s at h broken e = refl
turn-fields joints left s at h (fields f fs rest) e =
    turn-numbers joints left s rest (record-rest s at h (fields f fs rest) e f fs rest refl) (three_numbers (f ∷ fs))

-- the table from the record at a position on
pub table-turn : (joints left : ℕ) (s : List ℕ) (at : ℕ) → at < length s
    → read_from joints (suc left) (drop at s) ≡ turn joints left s (read_at s at)
unfolding read_from
table-turn joints left s at h =
    more (drop at s) _ (left_over s at h)
    ∙ turn-fields joints left s at (omega arith) (first_record (drop at s)) (ending Place.FieldStart (drop at s))

pub table-full : (joints : ℕ) (s : List ℕ) (at : ℕ) → at < length s → read_from joints zero (drop at s) ≡ refused Broken
unfolding read_from
table-full joints s at h = more (drop at s) _ (left_over s at h)

pub no_bytes : (joints left : ℕ) → read_from joints left [] ≡ granted []
unfolding read_from unless_empty
no_bytes joints zero = refl
no_bytes joints (suc left) = refl

pub table-end : (joints left : ℕ) (s : List ℕ) (at : ℕ) → length s ≤ at → read_from joints left (drop at s) ≡ granted []
table-end joints left s at h = ap (read_from joints left) (drop_of_length-le s h) ∙ no_bytes joints left

-- ---- the program's answer along the walk, where n of at most m records went before

answer-after : (n : ℕ) (e : Entry) (t : Table) → table_answer n (after e t) ≡ table_answer (n + 1) t
unfolding after table_answer
answer-after n e (granted es) = ap Ok (omega arith)
answer-after n e (refused k) = refl

module _ (joints m n : ℕ) (s : List ℕ) (at : ℕ) where
  pub answer-end : length s ≤ at → table_answer n (read_from joints (m - n) (drop at s)) ≡ Ok n
  unfolding table_answer
  answer-end h = ap (table_answer n) (table-end joints (m - n) s at h) ∙ ap Ok (add-zero n)

  pub answer-full : at < length s → n ≡ m → table_answer n (read_from joints (m - n) (drop at s)) ≡ Err Broken
  unfolding table_answer
  answer-full h e =
      let z : m - n ≡ 0 = omega arith in
      ap (λ (k : ℕ). table_answer n (read_from joints k (drop at s))) z ∙ ap (table_answer n) (table-full joints s at h)

  module _ (h : at < length s) (room : n < m) where
    answer-turn : (r : Result RecordRead TableRefusal) → read_at s at ≡ r → table_answer n (read_from joints (m - n) (drop at s)) ≡ table_answer n (turn joints (m - (n + 1)) s r)
    answer-turn r e =
        let z : m - n ≡ suc (m - (n + 1)) = omega arith in
        ap (λ (k : ℕ). table_answer n (read_from joints k (drop at s))) z
        ∙ ap (table_answer n) (table-turn joints (m - (n + 1)) s at h ∙ ap (turn joints (m - (n + 1)) s) e)

    pub answer-next : (r : RecordRead) → read_at s at ≡ Ok r → is_present joints r.entry ≡ true
        → table_answer n (read_from joints (m - n) (drop at s)) ≡ table_answer (n + 1) (read_from joints (m - (n + 1)) (drop r.next s))
    unfolding turn
    answer-next r q p =
        answer-turn (Ok r) q
        ∙ ap (λ (t : Bool). table_answer n (cond t (after r.entry (read_from joints (m - (n + 1)) (drop r.next s))) (refused Absent))) p
        ∙ answer-after n r.entry (read_from joints (m - (n + 1)) (drop r.next s))

    pub answer-absent : (r : RecordRead) → read_at s at ≡ Ok r → is_present joints r.entry ≡ false
        → table_answer n (read_from joints (m - n) (drop at s)) ≡ Err Absent
    unfolding turn table_answer
    answer-absent r q p =
        answer-turn (Ok r) q
        ∙ ap (λ (t : Bool). table_answer n (cond t (after r.entry (read_from joints (m - (n + 1)) (drop r.next s))) (refused Absent))) p

    pub answer-faulty : (f : TableRefusal) → read_at s at ≡ Err f → table_answer n (read_from joints (m - n) (drop at s)) ≡ Err f
    unfolding turn table_answer
    answer-faulty f q = answer-turn (Err f) q
