-- The exports' numbers and words, from what the calls answer.
use mathlib.Core.Path.{◌≡◌, refl, sym, ap, ◌∙◌}
use mathlib.Core.Bool.{Bool, true, false, cond, ◌&&◌}
use mathlib.Core.List.{List}
use Prim.Native.Nat.{ℕ, ◌+◌, ◌-◌, ◌^◌, ◌≤◌, ◌<◌}
use native.Mathlib.Nat.{zero-add}
use native.Mathlib.Omega.{arith}
use borrow.Author.Tests.{lt-ltb, le-ltb, le-leb, lt-leb}
use lib.Dec.{ltb}
use lib.ListN.{length, set}
use Rattle.motor_table.specs.Tables.{Table, table_answer}
use Rattle.motor_table.specs.Tables.Table.{granted, refused}
use Rattle.motor_table.specs.Text.{written_answer, text_of}
use Rattle.capi.specs.TableExports.{refused_number, table_number, written_number, number_word, words_after}
use Rattle.motor_table.specs.declared.whole_number.Number.{Number}
use Rattle.motor_table.specs.declared.record.Entry.{Entry}
use Rattle.motor_table.specs.Refusals.{refusal_number}
use Rattle.motor_table.specs.declared.refusal.TableRefusal.{TableRefusal}
use Rattle.std.specs.Prelude.{Ok, Err}

pub read_count : (t : Table) (n : ℕ) → table_answer 0 t ≡ Ok n → n ≡ table_number t
unfolding table_answer table_number
read_count (granted es) n h = let e : 0 + length es ≡ n = cc in sym e ∙ zero-add (length es)
read_count (refused k) n h = cc

pub read-refused : (t : Table) (k : TableRefusal) → table_answer 0 t ≡ Err k → refused_number (refusal_number k) ≡ table_number t
unfolding table_answer table_number
read-refused (granted es) k h = cc
read-refused (refused j) k h = let e : j ≡ k = cc in ap (λ r. refused_number (refusal_number r)) (sym e)

pub written-length : (t : Table) (n : ℕ) → written_answer 0 t ≡ Ok n → n ≡ written_number t
unfolding written_answer written_number
written-length (granted es) n h = let e : 0 + length (text_of es) ≡ n = cc in sym e ∙ zero-add (length (text_of es))
written-length (refused k) n h = cc

pub written-refused : (t : Table) (k : TableRefusal) → written_answer 0 t ≡ Err k → refused_number (refusal_number k) ≡ written_number t
unfolding written_answer written_number
written-refused (granted es) k h = cc
written-refused (refused j) k h = let e : j ≡ k = cc in ap (λ r. refused_number (refusal_number r)) (sym e)

word : (n : Number) (a b : Bool) → n.negative ≡ a → ltb 0 n.size ≡ b → number_word n ≡ cond (a && b) (2 ^ 32 - n.size) n.size
unfolding number_word
word n a b h k =
    ap (λ (t : Bool). cond (t && ltb 0 n.size) (2 ^ 32 - n.size) n.size) h
    ∙ ap (λ (t : Bool). cond (a && t) (2 ^ 32 - n.size) n.size) k

pub word_below : (n : Number) → n.negative ≡ true → 0 < n.size → 4294967295 - (n.size - 1) ≡ number_word n
word_below n h k =
    let e : 4294967295 - (n.size - 1) ≡ 2 ^ 32 - n.size = omega arith in
    e ∙ sym (word n true true h (lt-ltb 0 n.size k))

pub word-zero : (n : Number) → n.negative ≡ true → n.size ≤ 0 → n.size ≡ number_word n
word-zero n h k = sym (word n true false h (le-ltb 0 n.size k))

pub word-above : (n : Number) → n.negative ≡ false → n.size ≡ number_word n
word-above n h = sym (word n false _ h refl)

pub words-put : (words : List ℕ) (e : Entry) (a b c : ℕ) → 3 ≤ length words → a ≡ number_word e.joint → b ≡ number_word e.axis
    → c ≡ number_word e.thousandths → set (set (set words 0 a) 1 b) 2 c ≡ words_after words e
unfolding words_after
words-put words e a b c h p q r =
    ap (λ (x : ℕ). set (set (set words 0 x) 1 b) 2 c) p
    ∙ ap (λ (x : ℕ). set (set (set words 0 (number_word e.joint)) 1 x) 2 c) q
    ∙ ap (λ (x : ℕ). set (set (set words 0 (number_word e.joint)) 1 (number_word e.axis)) 2 x) r
    ∙ sym
    (ap
    (λ (t : Bool).
    cond t (set (set (set words 0 (number_word e.joint)) 1 (number_word e.axis)) 2 (number_word e.thousandths)) words)
    (le-leb 3 (length words) h))

pub words-kept : (words : List ℕ) (e : Entry) → length words < 3 → words ≡ words_after words e
unfolding words_after
words-kept words e h =
    sym
    (ap
    (λ (t : Bool).
    cond t (set (set (set words 0 (number_word e.joint)) 1 (number_word e.axis)) 2 (number_word e.thousandths)) words)
    (lt-leb 3 (length words) h))
