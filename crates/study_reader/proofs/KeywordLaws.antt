-- A text that holds a table is looked up as the table is: the rows of the text, read as the look-up reads them, are the lines of the table.
use mathlib.Core.Path.{◌≡◌, refl, sym, ap, ◌∙◌}
use mathlib.Core.Bool.{Bool, true, false, cond}
use mathlib.Core.List.{List, [], ◌∷◌}
use Prim.Native.Nat.{ℕ, zero, suc, ◌+◌, ◌≤◌, ◌<◌}
use native.Mathlib.Omega.{arith}
use borrow.Author.Tests.{lt-ltb, le-ltb}
use lib.Dec.{ltb}
use lib.ListN.{length}
use Rattle.study_reader.specs.Words.{same_bytes, next_word, next_line, bytes_of, whole_of}
use Rattle.study_reader.specs.Keywords.{Named, meaning, field, no_field}
use Rattle.std.specs.Option.{unwrap_or}
use Rattle.study_reader.specs.Tables.{word_end, end_in, number_after, past_word, field_after}
use Rattle.study_reader.specs.declared.fields.Field.{Field}
use Rattle.study_reader.proofs.Places.{next-line-far}

-- the row of the line at a place of a text, where `read` says what stands after a word
abbrev row_at : {A : Type 0} → (ℕ → A) → List ℕ → ℕ → Named A
row_at read text at = record { word = bytes_of text (next_word text at); means = read (next_word text at).end }

-- the rows of so many lines from a place on
unfoldable pub rows_in : {A : Type 0} → (ℕ → A) → ℕ → List ℕ → ℕ → List (Named A)
rows_in read zero text at = []
rows_in read (suc n) text at = cond (ltb at (length text)) (row_at read text at ∷ rows_in read n text (next_line text at)) []

module _ {A : Type 0} (read : ℕ → A) (other : A) (text bytes : List ℕ) (ends : read (length text) ≡ other) where
  looked-up : (n at : ℕ) → read (word_end n text bytes at) ≡ meaning (rows_in read n text at) other bytes
  unfolding word_end rows_in meaning
  looked-up zero at = ends
  looked-up (suc n) at = row (ltb at (length text)) (row_at read text at ∷ rows_in read n text (next_line text at)) (word (same_bytes bytes (bytes_of text (next_word text at))) (looked-up n (next_line text at)))
    where
      word : (t : Bool) {later : ℕ} {rest : A} → read later ≡ rest → read (cond t (next_word text at).end later) ≡ cond t (read (next_word text at).end) rest
      word true e = refl
      word false e = e

      row : (t : Bool) (rows : List (Named A)) {found : ℕ} → read found ≡ meaning rows other bytes → read (cond t found (length text)) ≡ meaning (cond t rows []) other bytes
      row true rows e = e
      row false rows e = ends

  by-table : (rows : List (Named A)) → rows_in read (length text) text 0 ≡ rows → read (end_in text bytes) ≡ meaning rows other bytes
  unfolding end_in
  by-table rows e = looked-up (length text) 0 ∙ ap (λ (l : List (Named A)). meaning l other bytes) e

-- What stands after a word, as above: here it computes where a text is given, and there a text can be told from it.

abbrev number_at : List ℕ → ℕ → ℕ → ℕ
number_at text other at = unwrap_or (whole_of text (next_word text at)) other

abbrev field_at : List ℕ → ℕ → Field
field_at text at =
    field (number_at text 0 at) (number_at text 0 (past_word text at)) (number_at text 0 (past_word text (past_word text at))) (number_at text 0 (past_word text (past_word text (past_word text at))))

module _ (text bytes : List ℕ) where
  pub number-by-table : (other : ℕ) → number_at text other (length text) ≡ other → (rows : List (Named ℕ)) → rows_in (number_at text other) (length text) text 0 ≡ rows → number_after text other (end_in text bytes) ≡ meaning rows other bytes
  unfolding number_after
  number-by-table other ends = by-table (number_at text other) other text bytes ends

  pub field-by-table : field_at text (length text) ≡ no_field → (rows : List (Named Field)) → rows_in (field_at text) (length text) text 0 ≡ rows → field_after text (end_in text bytes) ≡ meaning rows no_field bytes
  unfolding field_after number_after
  field-by-table ends = by-table (field_at text) no_field text bytes ends

-- ---- the turns of the look-up

module _ (text bytes : List ℕ) (at : ℕ) where
  pub end-here : (n : ℕ) → length text ≤ at + n → at < length text → same_bytes bytes (bytes_of text (next_word text at)) ≡ true → (next_word text at).end ≡ word_end n text bytes at
  unfolding word_end
  end-here zero k h e = absurd (omega arith)
  end-here (suc n) k h e = sym (simp (lt-ltb at (length text) h, e))

  pub end-next : (n : ℕ) → length text ≤ at + n → at < length text → same_bytes bytes (bytes_of text (next_word text at)) ≡ false → (m : ℕ) × (length text ≤ next_line text at + m) × (word_end m text bytes (next_line text at) ≡ word_end n text bytes at)
  unfolding word_end
  end-next zero k h e = absurd (omega arith)
  end-next (suc n) k h e = (n, omega (arith, next-line-far text at h), sym (simp (lt-ltb at (length text) h, e)))

  pub end_none : (n : ℕ) → length text ≤ at → length text ≡ word_end n text bytes at
  unfolding word_end
  end_none zero h = refl
  end_none (suc n) h = sym (simp (le-ltb at (length text) h))
