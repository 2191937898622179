-- The refusal along a walk over the records; and what a writer answers and leaves by it.
use Rattle.std.proofs.Common.{◌≡◌, ℕ, zero, suc, ◌+◌, ◌-◌, ◌*◌, ◌<◌, ◌≤◌, Bool, true, false, cond, List, [], ◌∷◌, length, sym, refl, ap, ◌∙◌, zero-add, arith, length-append, Ok, Err, Some, None}
use Rattle.texts.specs.Written.{written}
use Rattle.texts.specs.Sink.{placed, Wrote}
use Rattle.texts.proofs.SinkLaws.{placed-whole}
use Rattle.motor_table.specs.Records.{is_present}
use Rattle.motor_table.specs.Tables.{Table, most_records, after}
use Rattle.motor_table.specs.Tables.Table.{granted, refused}
use Rattle.motor_table.specs.Text.{record_text, text_of, entry_at, entries_from, is_sized, granting, refusal_in, written_answer, written_text}
use Rattle.motor_table.specs.declared.record.Entry.{Entry}
use Rattle.motor_table.specs.declared.refusal.TableRefusal.{TableRefusal}
use Rattle.motor_table.specs.declared.refusal.TableRefusal.TheVariants.{Broken, NotThreeNumbers, Absent}
use Rattle.motor_table.proofs.TextLaws.{record-short}

refusal-after : (e : Entry) (t : Table) → refusal_in (after e t) ≡ refusal_in t
unfolding after
refusal-after e (granted es) = refl
refusal-after e (refused k) = refl

-- m records are the most, n there are, and k went before
module _ (joints m n : ℕ) (ws : List ℕ) (k : ℕ) where
  abbrev left : ℕ → Table
  left k = granting joints (m - k) (entries_from ws k (n - k))

  pub at-end : n ≤ k → refusal_in (left k) ≡ None
  unfolding entries_from granting
  at-end h =
      let z : n - k ≡ 0 = omega arith in
      ap (λ (j : ℕ). refusal_in (granting joints (m - k) (entries_from ws k j))) z

  pub at-full : k < n → k ≡ m → refusal_in (left k) ≡ Some Broken
  unfolding entries_from granting
  at-full h e =
      let z : n - k ≡ suc (n - (k + 1)) = omega arith in
      let y : m - k ≡ 0 = omega arith in
      ap (λ (j : ℕ). refusal_in (granting joints (m - k) (entries_from ws k j))) z
      ∙ ap (λ (j : ℕ). refusal_in (granting joints j (entries_from ws k (suc (n - (k + 1)))))) y

  module _ (h : k < n) (room : k < m) where
    turn : refusal_in (left k) ≡ refusal_in (cond (is_sized (entry_at ws k)) (cond (is_present joints (entry_at ws k)) (after (entry_at ws k) (left (k + 1))) (refused Absent)) (refused NotThreeNumbers))
    unfolding entries_from granting
    turn =
        let z : n - k ≡ suc (n - (k + 1)) = omega arith in
        let y : m - k ≡ suc (m - (k + 1)) = omega arith in
        ap (λ (j : ℕ). refusal_in (granting joints (m - k) (entries_from ws k j))) z
        ∙ ap (λ (j : ℕ). refusal_in (granting joints j (entries_from ws k (suc (n - (k + 1)))))) y

    tested : (a b : Bool) → is_sized (entry_at ws k) ≡ a → is_present joints (entry_at ws k) ≡ b
        → refusal_in (left k) ≡ refusal_in (cond a (cond b (after (entry_at ws k) (left (k + 1))) (refused Absent)) (refused NotThreeNumbers))
    tested a b p q =
        turn
        ∙ ap (λ (t : Bool). refusal_in (cond t (cond (is_present joints (entry_at ws k)) (after (entry_at ws k) (left (k + 1))) (refused Absent)) (refused NotThreeNumbers))) p
        ∙ ap (λ (t : Bool). refusal_in (cond a (cond t (after (entry_at ws k) (left (k + 1))) (refused Absent)) (refused NotThreeNumbers))) q

    pub at-large : is_sized (entry_at ws k) ≡ false → refusal_in (left k) ≡ Some NotThreeNumbers
    at-large p = tested false _ p refl

    pub at-absent : is_sized (entry_at ws k) ≡ true → is_present joints (entry_at ws k) ≡ false → refusal_in (left k) ≡ Some Absent
    at-absent p q = tested true false p q

    pub at_next : is_sized (entry_at ws k) ≡ true → is_present joints (entry_at ws k) ≡ true → refusal_in (left k) ≡ refusal_in (left (k + 1))
    at_next p q = tested true true p q ∙ refusal-after (entry_at ws k) (left (k + 1))

-- ---- what is granted is the table that was handed over, and its text is short

Kept : ℕ → List Entry → Table → Type 0
Kept m es (granted fs) = (fs ≡ es) × (length (text_of es) ≤ m * 30000000)
Kept m es (refused r) = Unit {0}

kept-after : (m : ℕ) (e : Entry) (es : List Entry) (t : Table) → is_sized e ≡ true → Kept m es t → Kept (suc m) (e ∷ es) (after e t)
unfolding Kept after text_of
kept-after m e es (granted fs) s h = (ap (λ (l : List Entry). e ∷ l) h.0, omega (arith, length-append (record_text e) (text_of es), record-short e s, h.1))
kept-after m e es (refused k) s h = h

kept-tested : (a b : Bool) (m : ℕ) (e : Entry) (es : List Entry) (t : Table) → is_sized e ≡ a → Kept m es t
    → Kept (suc m) (e ∷ es) (cond a (cond b (after e t) (refused Absent)) (refused NotThreeNumbers))
unfolding Kept
kept-tested true true m e es t s h = kept-after m e es t s h
kept-tested true false m e es t s h = tt
kept-tested false b m e es t s h = tt

kept : (joints m : ℕ) (es : List Entry) → Kept m es (granting joints m es)
unfolding granting Kept text_of
kept joints m [] = (refl, omega arith)
kept joints zero (e ∷ es) = tt
kept joints (suc m) (e ∷ es) = kept-tested (is_sized e) (is_present joints e) m e es (granting joints m es) refl (kept joints m es)

-- ---- the writer's answer and what it leaves

pub refused-answer : (t : Table) (r : TableRefusal) → refusal_in t ≡ Some r → (out : List ℕ) → (Err r ≡ written_answer 0 t) × (out ≡ written_text out t)
unfolding written_answer written_text
refused-answer (granted es) r e out = let z : ◌≡◌ {A = ℕ} 0 1 = cc in absurd (let y : ⊥ = omega arith in y)
refused-answer (refused q) r e out = let same : r ≡ q = cc in (ap Err same, refl)

module _ (es : List Entry) {out out' : List ℕ} {r : ℕ} (w : Wrote out (text_of es) out' r) where
  answered : (t : Table) → Kept most_records es t → refusal_in t ≡ None → (Ok r ≡ written_answer 0 t) × (out' ≡ written_text out t)
  unfolding Kept written_answer written_text
  answered (granted fs) k e =
      let p : placed (text_of es) ≡ text_of es = placed-whole (text_of es) (omega (arith, k.1)) in
      (ap Ok (w.answers ∙ ap length p ∙ sym (zero-add (length (text_of es))) ∙ ap (λ (l : List Entry). 0 + length (text_of l)) (sym k.0)), w.leaves ∙ ap (written out) p ∙ ap (λ (l : List Entry). written out (text_of l)) (sym k.0))
  answered (refused r) k e = let z : ◌≡◌ {A = ℕ} 0 1 = cc in absurd (let y : ⊥ = omega arith in y)

  pub granted-answer : (joints : ℕ) → refusal_in (granting joints most_records es) ≡ None
      → (Ok r ≡ written_answer 0 (granting joints most_records es)) × (out' ≡ written_text out (granting joints most_records es))
  granted-answer joints e = answered (granting joints most_records es) (kept joints most_records es) e
