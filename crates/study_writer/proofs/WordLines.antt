-- What the printed lines of a joint's masks and words say, and the line of the settings.
use mathlib.Core.Path.{◌≡◌, refl, ◌∙◌}
use mathlib.Core.Bool.{Bool, true, false, cond}
use mathlib.Core.List.{List, [], ◌∷◌}
use Prim.Native.Nat.{ℕ, ◌+◌, ◌-◌, ◌≤◌, ◌<◌}
use native.Mathlib.Omega.{arith}
use borrow.Author.Tests.{ne_eqb, lt-ltb, le-ltb}
use lib.Dec.{eqb}
use lib.ListN.{drop}
use Rattle.texts.specs.Digits.{decimal}
use Rattle.texts.specs.Ascii.{ascii}
use Rattle.model.specs.Layout.{masks_place, models_place, enabled_place}
use Rattle.study_reader.specs.Words.{next_word, same_bytes, is_word}
use Rattle.study_reader.specs.Keywords.{meaning, axis_words, joint_item, calls_item, settings_keyword, center_keyword, motor_model_keyword, lock_keyword, enabled_keyword}
use Rattle.study_reader.specs.Items.{whole, mask_line, model_line, word_line, open_line, item_line, line_of}
use Rattle.study_reader.specs.declared.draft.State.{State}
use Rattle.study_reader.specs.declared.items.Change.TheVariants.{JointWord, OpenSettings}
use Rattle.study_writer.specs.Text.{line_onto, model_word}
use Rattle.study_writer.proofs.Lexical.{proper, first_word, further-word, no_word}
use Rattle.study_writer.proofs.Spelling.{decimal-proper, whole-read}
use Rattle.study_writer.proofs.NumberLines.{item_table, call_table, Keyword, item-line, keyword-line}

abbrev pub Worded : List ℕ → List ℕ → State → ℕ → ℕ → Type 0
Worded text names st place value = (a : ℕ) × (line_of text names st ≡ JointWord place value a)

module _ (text names : List ℕ) (st : State) (kw rest : List ℕ) where
  abbrev w₁ : ℕ
  w₁ = (next_word text st.at).end

  pub mask-line : (k m : ℕ) → drop st.at text ≡ line_onto (kw ∷ decimal m ∷ []) rest → Keyword kw k → lock_keyword ≤ k → k < motor_model_keyword → st.kind ≡ joint_item
      → m ≤ 4294967289 → Worded text names st (masks_place + (k - lock_keyword)) m
  unfolding word_line mask_line whole
  mask-line k m h f l u e small =
      let s = first_word text st.at kw (decimal m ∷ []) rest h f.is-proper in
      let v = further-word text w₁ (decimal m) [] rest s.after (decimal-proper m) in (
        (next_word text w₁).start,
        keyword-line text names st kw (decimal m ∷ []) rest h k f (omega arith) (omega arith) e
            ∙ simp (le-ltb k lock_keyword l, lt-ltb k motor_model_keyword u, v.bytes, whole-read m small, no_word text (next_word text w₁).end rest v.after),
      )

  module _ (axis : ℕ) (aw : List ℕ) (pa : proper aw ≡ true) (am : meaning axis_words 3 aw ≡ axis) (small : axis < 3) where
    model-cases : (t : Bool) → drop st.at text ≡ line_onto (kw ∷ aw ∷ cond t (ascii "acceleration") (ascii "force") ∷ []) rest → Keyword kw motor_model_keyword
        → st.kind ≡ joint_item → Worded text names st (models_place + axis) (cond t 0 1)
    unfolding word_line model_line whole is_word same_bytes
    model-cases true h f e =
        let s = first_word text st.at kw (aw ∷ ascii "acceleration" ∷ []) rest h f.is-proper in
        let r = further-word text w₁ aw (ascii "acceleration" ∷ []) rest s.after pa in
        let at = (next_word text w₁).end in
        let v = further-word text at (ascii "acceleration") [] rest r.after refl in (
          (next_word text at).start,
          keyword-line text names st kw (aw ∷ ascii "acceleration" ∷ []) rest h motor_model_keyword f (omega arith) (omega arith) e
              ∙ simp (r.bytes, am, le-ltb 2 axis (omega arith), v.bytes, no_word text (next_word text at).end rest v.after),
        )
    model-cases false h f e =
        let s = first_word text st.at kw (aw ∷ ascii "force" ∷ []) rest h f.is-proper in
        let r = further-word text w₁ aw (ascii "force" ∷ []) rest s.after pa in
        let at = (next_word text w₁).end in
        let v = further-word text at (ascii "force") [] rest r.after refl in (
          (next_word text at).start,
          keyword-line text names st kw (aw ∷ ascii "force" ∷ []) rest h motor_model_keyword f (omega arith) (omega arith) e
              ∙ simp (r.bytes, am, le-ltb 2 axis (omega arith), v.bytes, no_word text (next_word text at).end rest v.after),
        )

    pub model-line : (m : ℕ) → drop st.at text ≡ line_onto (kw ∷ aw ∷ model_word m ∷ []) rest → Keyword kw motor_model_keyword → st.kind ≡ joint_item
        → Worded text names st (models_place + axis) (cond (eqb m 0) 0 1)
    unfolding model_word
    model-line m h f e = model-cases (eqb m 0) h f e

  pub enabled-line : (k : ℕ) → drop st.at text ≡ line_onto (kw ∷ []) rest → Keyword kw k → enabled_keyword ≤ k → k < center_keyword → st.kind ≡ joint_item
      → Worded text names st enabled_place (k - enabled_keyword)
  unfolding word_line whole
  enabled-line k h f l u e =
      let s = first_word text st.at kw [] rest h f.is-proper in (
        (next_word text st.at).start,
        keyword-line text names st kw [] rest h k f (omega arith) (omega arith) e
            ∙ simp (le-ltb k lock_keyword (omega arith), le-ltb k motor_model_keyword (omega arith), ne_eqb k motor_model_keyword (λ q. omega arith), ne_eqb k center_keyword (λ q. omega arith), no_word text w₁ rest s.after),
      )

  pub settings-line : drop st.at text ≡ line_onto (kw ∷ []) rest → proper kw ≡ true → call_table kw ≡ 0 → item_table kw ≡ settings_keyword → eqb st.kind calls_item ≡ false
      → line_of text names st ≡ OpenSettings
  unfolding item_line open_line whole
  settings-line h p c i k =
      let s = first_word text st.at kw [] rest h p in
      item-line text names st kw [] rest h p c ∙ simp (s.bytes, i, k, no_word text w₁ rest s.after)
