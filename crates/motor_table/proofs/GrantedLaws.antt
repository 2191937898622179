-- A table that is granted: each of its records has a joint and an axis that are there and numbers that are small enough (`granted-fit`), its records
-- do not depend on the number of joints (`same-records`), and a second walk over its bytes meets these records alone (`next-record`, `not-faulty`). A table is granted or refused with 13, 14 or 15 (`refusal-cases`).
use Rattle.std.proofs.Common.{◌≡◌, ℕ, zero, suc, ◌+◌, ◌-◌, ◌<◌, ◌≤◌, Bool, true, false, cond, not, ◌&&◌, eqb, ltb, leb, ◌≢◌, List, [], ◌∷◌, length, drop, sym, refl, ap, ◌∙◌, subst, arith, ltb-false, ltb-true, eqb-true, leb-true, Result, Ok, Err}
use mathlib.Core.Bool.{false≢true}
use mathlib.Core.Option.{Option, none, some}
use borrow.Author.Tests.{eqb-false}
use Rattle.motor_table.specs.Rfc4180.{Parsed, first_record}
use Rattle.motor_table.specs.Rfc4180.Parsed.{fields, broken}
use Rattle.texts.specs.Ascii.{MINUS}
use Rattle.motor_table.specs.WholeNumber.{largest_size, is_sign, number_of, digits_after, sized, unsigned, whole_number}
use Rattle.motor_table.specs.Records.{entry_of, three_numbers, is_present, read_at}
use Rattle.motor_table.specs.Tables.{Table, table_refusal, after, checked, unless_empty, read_from, table_answer}
use Rattle.motor_table.specs.Tables.Table.{granted, refused}
use Rattle.motor_table.specs.declared.whole_number.Number.{Number}
use Rattle.motor_table.specs.declared.record.Entry.{Entry}
use Rattle.motor_table.specs.declared.record.RecordRead.{RecordRead}
use Rattle.motor_table.specs.Refusals.{refusal_number}
use Rattle.motor_table.specs.declared.refusal.TableRefusal.{TableRefusal}
use Rattle.motor_table.specs.declared.refusal.TableRefusal.TheVariants.{Broken, NotThreeNumbers, Absent}
use Rattle.motor_table.proofs.TableLaws.{turn, table-turn, answer-end, answer-full, answer-next, answer-absent, answer-faulty}

by_cases : {P : Type 0} (t : Bool) → (t ≡ true → P) → (t ≡ false → P) → P
by_cases true f g = f refl
by_cases false f g = g refl

both : (a b : Bool) → (a && b) ≡ true → (a ≡ true) × (b ≡ true)
both true b e = (refl, e)
both false b e = absurd (false≢true e)

not_some : {A P : Type 0} (x : A) → ◌≡◌ {A = Option A} none (some x) → P
not_some x h = let z : true ≡ false = cc in absurd (false≢true (sym z))

not-refused : {P : Type 0} (r : TableRefusal) (n : ℕ) → ◌≡◌ {A = Result ℕ TableRefusal} (Err r) (Ok n) → P
not-refused r n h = let z : true ≡ false = cc in absurd (false≢true (sym z))

-- ---- the numbers of a refusal

module _ (P : ℕ → Type 0) (none-fails : P 0) (breaks : P 13) (no-numbers : P 14) (absent : P 15) (joints : ℕ) where
  after-cases : (e : Entry) (t : Table) → P (table_refusal t) → P (table_refusal (after e t))
  unfolding table_refusal after
  after-cases e (granted es) h = h
  after-cases e (refused k) h = h

  present-cases : (b : Bool) (e : Entry) (t : Table) → P (table_refusal t) → P (table_refusal (cond b (after e t) (refused Absent)))
  unfolding table_refusal
  present-cases true e t h = after-cases e t h
  present-cases false e t h = absent

  checked-cases : (o : Option Entry) (t : Table) → P (table_refusal t) → P (table_refusal (checked joints o t))
  unfolding table_refusal checked
  checked-cases none t h = no-numbers
  checked-cases (some e) t h = present-cases (is_present joints e) e t h

  empty-cases : (bs : List ℕ) (t : Table) → P (table_refusal t) → P (table_refusal (unless_empty bs t))
  unfolding table_refusal unless_empty
  empty-cases [] t h = none-fails
  empty-cases (b ∷ bs) t h = h

  parsed-cases : (left : ℕ) → ((rest : List ℕ) → P (table_refusal (read_from joints left rest))) → (p : Parsed)
      → P (table_refusal (elim p [ broken ↦ refused Broken | fields f fs rest ↦ checked joints (three_numbers (f ∷ fs)) (read_from joints left rest) ]))
  unfolding table_refusal
  parsed-cases left later broken = breaks
  parsed-cases left later (fields f fs rest) = checked-cases (three_numbers (f ∷ fs)) (read_from joints left rest) (later rest)

  pub refusal-cases : (left : ℕ) (bs : List ℕ) → P (table_refusal (read_from joints left bs))
  unfolding table_refusal read_from
  refusal-cases zero bs = empty-cases bs (refused Broken) breaks
  refusal-cases (suc left) bs = empty-cases bs _ (parsed-cases left (λ rest. refusal-cases left rest) (first_record bs))

-- ---- the records of a table that is granted

-- a record's joint and axis are there, and its target is small enough
pub record Fits (joints : ℕ) (e : Entry) : Type 0 where
  pub joint : e.joint.size < joints
  pub axis : e.axis.size < 3
  pub thousandths : e.thousandths.size ≤ largest_size

abbrev pub AllFit : ℕ → List Entry → Type 0
AllFit joints [] = Unit
AllFit joints (e ∷ es) = Fits joints e × AllFit joints es

pub present-parts : (joints : ℕ) (e : Entry) → is_present joints e ≡ true → (e.joint.size < joints) × (e.axis.size < 3)
present-parts joints e h =
    let p = both (not e.joint.negative && ltb e.joint.size joints && not e.axis.negative) (ltb e.axis.size 3) h in
    let q = both (not e.joint.negative && ltb e.joint.size joints) (not e.axis.negative) p.0 in
    let r = both (not e.joint.negative) (ltb e.joint.size joints) q.0 in
    (ltb-true _ _ r.1, ltb-true _ _ p.1)

sized-small : (minus : Bool) (o : Option ℕ) (n : Number) → sized minus o ≡ some n → n.size ≤ largest_size
unfolding sized
sized-small minus none n h = not_some n h
sized-small minus (some v) n h = by_cases (leb v largest_size)
    (λ t.
    let e : some (number_of minus v) ≡ some n = rw t at h in
    let same : number_of minus v ≡ n = cc in
    subst (λ (x : Number). x.size ≤ largest_size) same (leb-true v largest_size t))
    (λ t. not_some n (rw t at h))

unsigned_small : (minus : Bool) (bs : List ℕ) (n : Number) → unsigned minus bs ≡ some n → n.size ≤ largest_size
unfolding unsigned
unsigned_small minus [] n h = not_some n h
unsigned_small minus (b ∷ bs) n h = sized-small minus (digits_after 0 (b ∷ bs)) n h

whole-small : (bs : List ℕ) (n : Number) → whole_number bs ≡ some n → n.size ≤ largest_size
unfolding whole_number
whole-small [] n h = not_some n h
whole-small (b ∷ bs) n h = by_cases (is_sign b)
    (λ t. unsigned_small (eqb b MINUS) bs n (rw t at h))
    (λ t. unsigned_small false (b ∷ bs) n (rw t at h))

entry-small : (a b c : Option Number) (e : Entry) → ((n : Number) → c ≡ some n → n.size ≤ largest_size) → entry_of a b c ≡ some e → e.thousandths.size ≤ largest_size
unfolding entry_of
entry-small none b c e h q = not_some e q
entry-small (some a) none c e h q = not_some e q
entry-small (some a) (some b) none e h q = not_some e q
entry-small (some a) (some b) (some c) e h q = let same : c ≡ e.thousandths = cc in h e.thousandths (ap some same)

three-small : (l : List (List ℕ)) (e : Entry) → three_numbers l ≡ some e → e.thousandths.size ≤ largest_size
unfolding three_numbers
three-small [] e h = not_some e h
three-small (a ∷ []) e h = not_some e h
three-small (a ∷ b ∷ []) e h = not_some e h
three-small (a ∷ b ∷ c ∷ []) e h = entry-small (whole_number a) (whole_number b) (whole_number c) e (whole-small c) h
three-small (a ∷ b ∷ c ∷ d ∷ more) e h = not_some e h

-- no refusal has the number 0
numbered : (r : TableRefusal) → refusal_number r ≢ 0
numbered Broken = omega arith
numbered NotThreeNumbers = omega arith
numbered Absent = omega arith

-- what is so of a table that is granted
abbrev TableFits : ℕ → Table → Type 0
TableFits joints (granted es) = AllFit joints es
TableFits joints (refused r) = Unit

module _ (joints : ℕ) where
  after-fits : (e : Entry) (t : Table) → Fits joints e → TableFits joints t → TableFits joints (after e t)
  unfolding after
  after-fits e (granted es) f h = (f, h)
  after-fits e (refused k) f h = h

  present-fits : (b : Bool) (e : Entry) (t : Table) → (b ≡ true → Fits joints e) → TableFits joints t → TableFits joints (cond b (after e t) (refused Absent))
  present-fits true e t f h = after-fits e t (f refl) h
  present-fits false e t f h = tt

  checked-fits : (o : Option Entry) (t : Table) → ((e : Entry) → o ≡ some e → e.thousandths.size ≤ largest_size) → TableFits joints t → TableFits joints (checked joints o t)
  unfolding checked
  checked-fits none t f h = tt
  checked-fits (some e) t f h =
      present-fits (is_present joints e) e t
      (λ p. let q = present-parts joints e p in record { joint = q.0; axis = q.1; thousandths = f e refl }) h

  empty-fits : (bs : List ℕ) (t : Table) → TableFits joints t → TableFits joints (unless_empty bs t)
  unfolding unless_empty
  empty-fits [] t h = tt
  empty-fits (b ∷ bs) t h = h

  parsed-fits : (left : ℕ) → ((rest : List ℕ) → TableFits joints (read_from joints left rest)) → (p : Parsed)
      → TableFits joints (elim p [ broken ↦ refused Broken | fields f fs rest ↦ checked joints (three_numbers (f ∷ fs)) (read_from joints left rest) ])
  parsed-fits left later broken = tt
  parsed-fits left later (fields f fs rest) = checked-fits (three_numbers (f ∷ fs)) (read_from joints left rest) (three-small (f ∷ fs)) (later rest)

  table_fits : (left : ℕ) (bs : List ℕ) → TableFits joints (read_from joints left bs)
  unfolding read_from
  table_fits zero bs = empty-fits bs (refused Broken) tt
  table_fits (suc left) bs = empty-fits bs _ (parsed-fits left (λ rest. table_fits left rest) (first_record bs))

  -- the table's records, where it has no refusal
  pub record Granted (t : Table) : Type 0 where
    pub records : List Entry
    pub holds : t ≡ granted records
    pub fit : AllFit joints records

  fits-granted : (t : Table) → TableFits joints t → table_refusal t ≡ 0 → Granted t
  unfolding table_refusal
  fits-granted (granted es) f h = record { records = es; holds = refl; fit = f }
  fits-granted (refused r) f h = absurd (numbered r h)

  -- by the program's answer
  answer-number : (t : Table) (n : ℕ) (r : TableRefusal) → table_answer n t ≡ Err r → (refusal_number r ≡ table_refusal t) × (refusal_number r ≢ 0)
  unfolding table_refusal table_answer
  answer-number (granted es) n r h = not-refused r (n + length es) (sym h)
  answer-number (refused q) n r h = let same : q ≡ r = cc in (ap refusal_number (sym same), numbered r)

  pub answer-refused : (left : ℕ) (bs : List ℕ) (n : ℕ) (r : TableRefusal) → table_answer n (read_from joints left bs) ≡ Err r
      → (refusal_number r ≡ table_refusal (read_from joints left bs)) × (refusal_number r ≢ 0)
  answer-refused left bs n r h = answer-number (read_from joints left bs) n r h

  pub answer-granted : (t : Table) (n c : ℕ) → table_answer n t ≡ Ok c → table_refusal t ≡ 0
  unfolding table_refusal table_answer
  answer-granted (granted es) n c h = refl
  answer-granted (refused r) n c h = not-refused r c h

  pub granted-fit : (left : ℕ) (bs : List ℕ) → table_refusal (read_from joints left bs) ≡ 0 → Granted (read_from joints left bs)
  granted-fit left bs h = fits-granted (read_from joints left bs) (table_fits left bs) h

-- ---- the records of a table are the same, however many joints there are

abbrev SameRecords : Table → Table → Type 0
SameRecords (granted es) (granted fs) = es ≡ fs
SameRecords (granted es) (refused k) = Unit
SameRecords (refused k) t = Unit

module _ (joints joints' : ℕ) where
  after_same : (e : Entry) (t t' : Table) → SameRecords t t' → SameRecords (after e t) (after e t')
  unfolding after
  after_same e (granted es) (granted fs) h = ap (λ (l : List Entry). e ∷ l) h
  after_same e (granted es) (refused k) h = tt
  after_same e (refused k) t h = tt

  present-same : (b b' : Bool) (e : Entry) (t t' : Table) → SameRecords t t' → SameRecords (cond b (after e t) (refused Absent)) (cond b' (after e t') (refused Absent))
  unfolding after
  present-same true true e t t' h = after_same e t t' h
  present-same true false e (granted es) t' h = tt
  present-same true false e (refused k) t' h = tt
  present-same false b' e t t' h = tt

  checked-same : (o : Option Entry) (t t' : Table) → SameRecords t t' → SameRecords (checked joints o t) (checked joints' o t')
  unfolding checked
  checked-same none t t' h = tt
  checked-same (some e) t t' h = present-same (is_present joints e) (is_present joints' e) e t t' h

  empty-same : (bs : List ℕ) (t t' : Table) → SameRecords t t' → SameRecords (unless_empty bs t) (unless_empty bs t')
  unfolding unless_empty
  empty-same [] t t' h = refl
  empty-same (b ∷ bs) t t' h = h

  parsed-same : (left : ℕ) → ((rest : List ℕ) → SameRecords (read_from joints left rest) (read_from joints' left rest)) → (p : Parsed)
      → SameRecords (elim p [ broken ↦ refused Broken | fields f fs rest ↦ checked joints (three_numbers (f ∷ fs)) (read_from joints left rest) ])
      (elim p [ broken ↦ refused Broken | fields f fs rest ↦ checked joints' (three_numbers (f ∷ fs)) (read_from joints' left rest) ])
  parsed-same left later broken = tt
  parsed-same left later (fields f fs rest) = checked-same (three_numbers (f ∷ fs)) (read_from joints left rest) (read_from joints' left rest) (later rest)

  table_same : (left : ℕ) (bs : List ℕ) → SameRecords (read_from joints left bs) (read_from joints' left bs)
  unfolding read_from
  table_same zero bs = empty-same bs (refused Broken) (refused Broken) tt
  table_same (suc left) bs = empty-same bs _ _ (parsed-same left (λ rest. table_same left rest) (first_record bs))

  pub same-records : (left : ℕ) (bs : List ℕ) (es fs : List Entry) → read_from joints left bs ≡ granted es → read_from joints' left bs ≡ granted fs → es ≡ fs
  same-records left bs es fs h k = rw (h, k) at (table_same left bs)

-- ---- what an answer says of a table

pub granted-after : (e : Entry) (es : List Entry) → after e (granted es) ≡ granted (e ∷ es)
unfolding after
granted-after e es = refl

pub granted-count : (k n : ℕ) (es : List Entry) → table_answer k (granted es) ≡ Ok n → k + length es ≡ n
unfolding table_answer
granted-count k n es h = cc

pub refused-never : (k n : ℕ) (r : TableRefusal) → table_answer k (refused r) ≡ Ok n → ⊥
unfolding table_answer
refused-never k n r h = let z : true ≡ false = cc in false≢true (sym z)

-- ---- a second walk over a table that is granted, where i of its n records went before

module _ (joints m n i : ℕ) (s : List ℕ) (at : ℕ) (all : table_answer i (read_from joints (m - i) (drop at s)) ≡ Ok n) where
  -- while there are records left there are bytes left, and fewer than m records went before
  pub bytes_left : i < n → at < length s
  bytes_left h = by_cases (ltb at (length s)) (λ t. ltb-true at (length s) t)
      (λ t.
      let e : ◌≡◌ {A = Result ℕ TableRefusal} (Ok i) (Ok n) = sym (answer-end joints m i s at (ltb-false at (length s) t)) ∙ all in
      let same : i ≡ n = cc in
      absurd (omega arith))

  pub not_full : i ≤ m → i < n → i < m
  not_full l h = by_cases (eqb i m)
      (λ t.
      not-refused Broken n (sym (answer-full joints m i s at (bytes_left h) (eqb-true i m t)) ∙ all))
      (λ t. let ne = eqb-false i m t in omega arith)

  module _ (l : i ≤ m) (h : i < n) where
    pub not-faulty : (f : TableRefusal) → read_at s at ≡ Err f → ⊥
    not-faulty f q =
        not-refused f n (sym (answer-faulty joints m i s at (bytes_left h) (not_full l h) f q) ∙ all)

    module _ (r : RecordRead) (q : read_at s at ≡ Ok r) where
      pub is-there : is_present joints r.entry ≡ true
      is-there = by_cases (is_present joints r.entry) (λ t. t)
          (λ t.
          not-refused Absent n (sym (answer-absent joints m i s at (bytes_left h) (not_full l h) r q t) ∙ all))

      -- the table from here on is this record and the table from the next position on
      pub next-record : read_from joints (m - i) (drop at s) ≡ after r.entry (read_from joints (m - (i + 1)) (drop r.next s))
      unfolding turn
      next-record =
          let room = not_full l h in
          let z : m - i ≡ suc (m - (i + 1)) = omega arith in
          ap (λ (k : ℕ). read_from joints k (drop at s)) z
          ∙ table-turn joints (m - (i + 1)) s at (bytes_left h)
          ∙ ap (turn joints (m - (i + 1)) s) q
          ∙ ap (λ (t : Bool). cond t (after r.entry (read_from joints (m - (i + 1)) (drop r.next s))) (refused Absent)) is-there

      pub next-answer : table_answer (i + 1) (read_from joints (m - (i + 1)) (drop r.next s)) ≡ Ok n
      next-answer = sym (answer-next joints m i s at (bytes_left h) (not_full l h) r q is-there) ∙ all
