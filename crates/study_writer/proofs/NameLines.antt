-- What the printed lines that open a body or a joint say: its name is free, and a joint's bodies are found by theirs.
use mathlib.Core.Path.{◌≡◌, refl, sym, ap, ◌∙◌}
use mathlib.Core.Bool.{Bool, true, false, cond, ◌||◌}
use mathlib.Core.List.{List, [], ◌∷◌}
use Prim.Native.Nat.{ℕ, zero, suc, ◌+◌, ◌-◌, ◌≤◌, ◌<◌}
use native.Mathlib.Omega.{arith}
use borrow.Author.Tests.{eqb-true, eqb-false, lt-ltb, le-ltb, ltb-true}
use lib.Dec.{eqb, ltb}
use lib.ListN.{length, drop}
use Rattle.std.specs.Prelude.{Some, None}
use Rattle.model.specs.Store.{world}
use Rattle.texts.specs.Ascii.{ascii}
use Rattle.study_reader.specs.Words.{next_word, bytes_of, same_bytes, is_word, same_words, holds_byte}
use Rattle.study_reader.specs.Storage.{most_items}
use Rattle.study_reader.specs.Names.{WORLD, body_name, joint_name, first_from, find_body, find_joint, find_end}
use Rattle.study_reader.specs.Items.{or_fault, whole, name_fault, body_line, ends, between, ends_line, joint_line, open_line, item_line, line_of}
use Rattle.study_reader.specs.declared.words.Word.{Word}
use Rattle.study_reader.specs.declared.draft.State.{State}
use Rattle.study_reader.specs.declared.items.Change.TheVariants.{OpenBody, OpenJoint}
use Rattle.multibody.specs.Model.{most_bodies, most_joints}
use Rattle.study_reader.specs.Keywords.{calls_item, body_keyword, joint_keyword}
use Rattle.study_writer.specs.Text.{line_onto, body_word, joint_word, end_word}
use Rattle.study_writer.proofs.Lexical.{proper, proper-plain, first_word, further-word, no_word, not-empty}
use Rattle.study_writer.proofs.Spelling.{decimal-short, same_refl, body-proper, joint-proper, bodies-apart, joints-apart, body-no-joint, body-no-world, joint-no-world, plain-has}
use Rattle.study_writer.proofs.NumberLines.{item_table, call_table, item-line}

-- ---- the first of which a test is true

pub none_found : (test : ℕ → Bool) (k n : ℕ) → ((m : ℕ) → m < k + n → test m ≡ false) → first_from test k n ≡ None
unfolding first_from
none_found test k zero h = refl
none_found test k (suc n) h =
    ap (λ (t : Bool). cond t (Some k) (first_from test (k + 1) n)) (h k (omega arith)) ∙ none_found test (k + 1) n (λ m l. h m (omega arith))

pub below : (k i : ℕ) → k ≤ i → (k ≡ i → ⊥) → k < i
below k i l q = omega arith

pub found : (test : ℕ → Bool) (k n i : ℕ) → k ≤ i → i < k + n → test i ≡ true → ((m : ℕ) → m < i → test m ≡ false) → first_from test k n ≡ Some i
unfolding first_from
found test k zero i l u e h = absurd (let z : ⊥ = omega arith in z)
found test k (suc n) i l u e h = go (eqb k i) refl (λ g. found test (k + 1) n i (omega arith) (omega arith) e h)
  where
    go : (t : Bool) → eqb k i ≡ t → (k < i → first_from test (k + 1) n ≡ Some i) → cond (test k) (Some k) (first_from test (k + 1) n) ≡ Some i
    go true t ih =
        let q = eqb-true k i t in
        ap (λ (b : Bool). cond b (Some k) (first_from test (k + 1) n)) (ap test q ∙ e) ∙ ap (λ (m : ℕ). Some m) q
    go false t ih =
        let q = eqb-false k i t in
        let g : k < i = below k i l q in
        ap (λ (b : Bool). cond b (Some k) (first_from test (k + 1) n)) (h k g) ∙ ih g

-- ---- names that are kept

-- so many bodies and joints have their names
abbrev pub BodyNames : List ℕ → List ℕ → ℕ → Type 0
BodyNames text names n = (k : ℕ) → k < n → bytes_of text (body_name names k) ≡ body_word k

abbrev pub JointNames : List ℕ → List ℕ → ℕ → Type 0
JointNames text names n = (k : ℕ) → k < n → bytes_of text (joint_name names k) ≡ joint_word k

module _ (text names : List ℕ) (n : ℕ) (w : Word) where
  -- a word that is no body's name, no joint's name
  pub no_body : BodyNames text names n → (name : List ℕ) → bytes_of text w ≡ name → ((k : ℕ) → k < n → same_bytes (body_word k) name ≡ false)
      → find_body text names n w ≡ None
  unfolding find_body same_words
  no_body h name e f = none_found (λ (k : ℕ). same_bytes (bytes_of text (body_name names k)) (bytes_of text w)) 0 n
      (λ m l. let l' : m < n = omega arith in ap (λ (s : List ℕ). same_bytes s (bytes_of text w)) (h m l') ∙ ap (same_bytes (body_word m)) e ∙ f m l')

  pub no-joint : JointNames text names n → (name : List ℕ) → bytes_of text w ≡ name → ((k : ℕ) → k < n → same_bytes (joint_word k) name ≡ false)
      → find_joint text names n w ≡ None
  unfolding find_joint same_words
  no-joint h name e f = none_found (λ (k : ℕ). same_bytes (bytes_of text (joint_name names k)) (bytes_of text w)) 0 n
      (λ m l. let l' : m < n = omega arith in ap (λ (s : List ℕ). same_bytes s (bytes_of text w)) (h m l') ∙ ap (same_bytes (joint_word m)) e ∙ f m l')

  pub that-body : BodyNames text names n → (i : ℕ) → i < n → bytes_of text w ≡ body_word i → find_body text names n w ≡ Some i
  unfolding find_body same_words
  that-body h i l e = found (λ (k : ℕ). same_bytes (bytes_of text (body_name names k)) (bytes_of text w)) 0 n i (omega arith) (omega arith)
      (ap (λ (s : List ℕ). same_bytes s (bytes_of text w)) (h i l) ∙ ap (same_bytes (body_word i)) e ∙ same_refl (body_word i))
      (λ m u. let u' : m < n = omega arith in
      ap (λ (s : List ℕ). same_bytes s (bytes_of text w)) (h m u') ∙ ap (same_bytes (body_word m)) e ∙ bodies-apart m i (omega arith))

  -- a joint's body: the world, or one that is there
  end-cases : (t : Bool) (i : ℕ) → BodyNames text names n → eqb i world ≡ t → (t || ltb i n) ≡ true → bytes_of text w ≡ cond t (ascii "world") (body_word i)
      → find_end text names n w ≡ Some i
  unfolding find_end is_word
  end-cases true i h q p e = ap (λ (s : List ℕ). cond (same_bytes s (ascii "world")) (Some WORLD) (find_body text names n w)) e
      ∙ ap (λ (b : Bool). cond b (Some WORLD) (find_body text names n w)) (same_refl (ascii "world")) ∙ ap (λ (m : ℕ). Some m) (sym (eqb-true i world q))
  end-cases false i h q p e = ap (λ (s : List ℕ). cond (same_bytes s (ascii "world")) (Some WORLD) (find_body text names n w)) e
      ∙ ap (λ (b : Bool). cond b (Some WORLD) (find_body text names n w)) (body-no-world i) ∙ that-body h i (ltb-true i n p) e

  pub that-end : (i : ℕ) → BodyNames text names n → (eqb i world || ltb i n) ≡ true → bytes_of text w ≡ end_word i → find_end text names n w ≡ Some i
  unfolding end_word
  that-end i h p e = end-cases (eqb i world) i h refl p e

-- its word is one
pub end-proper : (i : ℕ) → proper (end_word i) ≡ true
unfolding end_word
end-proper i = go (eqb i world)
  where
    go : (t : Bool) → proper (cond t (ascii "world") (body_word i)) ≡ true
    go true = refl
    go false = body-proper i

-- ---- the name after the word of a line is fine

body-short : (i : ℕ) → i ≤ most_bodies → length (body_word i) ≤ 64
unfolding body_word
body-short i h = omega (arith, decimal-short i)

joint-short : (j : ℕ) → j ≤ most_joints → length (joint_word j) ≤ 64
unfolding joint_word
joint-short j h = omega (arith, decimal-short j)

name-fine : (text names : List ℕ) (st : State) (w : Word) (name : List ℕ) → bytes_of text w ≡ name → w.start < w.end → w.end ≡ w.start + length name
    → proper name ≡ true → length name ≤ 64 → same_bytes name (ascii "world") ≡ false → find_body text names st.bodies w ≡ None
    → find_joint text names st.joints w ≡ None → name_fault text names st w ≡ None
unfolding name_fault is_word holds_byte
name-fine text names st w name e l z p short nw nb nj =
    let n : w.end - w.start ≡ length name = omega arith in
    simp (not-empty w l, e, nw, n, le-ltb 64 (length name) short, plain-has name 0x2c (proper-plain name p) (omega arith), plain-has name 0x22 (proper-plain name p) (omega arith), nb, nj)

-- ---- the lines

-- a name as the line gives it: it stands in the text, and has its bytes
pub record Name (text : List ℕ) (w : Word) (name : List ℕ) : Type 0 where
  pub starts : w.start < w.end
  pub ends : w.end < length text
  pub bytes : bytes_of text w ≡ name

module _ (text names : List ℕ) (st : State) (kw rest : List ℕ) where
  abbrev w₁ : ℕ
  w₁ = (next_word text st.at).end

  pub body-line : (i : ℕ) → drop st.at text ≡ line_onto (kw ∷ body_word i ∷ []) rest → proper kw ≡ true → call_table kw ≡ 0 → item_table kw ≡ body_keyword
      → eqb st.kind calls_item ≡ false → st.bodies ≡ i → st.joints ≡ 0 → i < most_bodies → BodyNames text names i
      → (w : Word) × Name text w (body_word i) × (line_of text names st ≡ OpenBody w (i + 1))
  unfolding item_line open_line body_line whole or_fault find_joint first_from
  body-line i h p c t k nb nj l ns =
      let s = first_word text st.at kw (body_word i ∷ []) rest h p in
      let v = further-word text w₁ (body_word i) [] rest s.after (body-proper i) in
      let w = next_word text w₁ in
      let fine = name-fine text names st w (body_word i) v.bytes v.some v.size (body-proper i) (body-short i (omega arith)) (body-no-world i)
      (ap (λ (n : ℕ). find_body text names n w) nb ∙ no_body text names i w ns (body_word i) v.bytes (λ m u. bodies-apart m i (omega arith)))
      (ap (λ (n : ℕ). find_joint text names n w) nj) in (
        w,
        record { starts = v.some; ends = v.within; bytes = v.bytes },
        item-line text names st kw (body_word i ∷ []) rest h p c
            ∙ simp (s.bytes, t, k, fine, nb, lt-ltb i most_items (omega arith), no_word text w.end rest v.after),
      )

  pub joint-line : (j n b1 b2 : ℕ) → drop st.at text ≡ line_onto (kw ∷ joint_word j ∷ end_word b1 ∷ end_word b2 ∷ []) rest → proper kw ≡ true → call_table kw ≡ 0
      → item_table kw ≡ joint_keyword → eqb st.kind calls_item ≡ false → st.bodies ≡ n → st.joints ≡ j → j < most_joints → n ≤ most_bodies → BodyNames text names n → JointNames text names j
      → (eqb b1 world || ltb b1 n) ≡ true → (eqb b2 world || ltb b2 n) ≡ true
      → (w : Word) × (a1 : ℕ) × (a2 : ℕ) × Name text w (joint_word j) × (line_of text names st ≡ OpenJoint w (j + 1) (ends b1 b2 a1 a2))
  unfolding item_line open_line joint_line between ends_line whole or_fault
  joint-line j n b1 b2 h p c t k nb nj l m ns js p1 p2 =
      let s = first_word text st.at kw (joint_word j ∷ end_word b1 ∷ end_word b2 ∷ []) rest h p in
      let v = further-word text w₁ (joint_word j) (end_word b1 ∷ end_word b2 ∷ []) rest s.after (joint-proper j) in
      let w = next_word text w₁ in
      let x = further-word text w.end (end_word b1) (end_word b2 ∷ []) rest v.after (end-proper b1) in
      let w2 = next_word text w.end in
      let y = further-word text w2.end (end_word b2) [] rest x.after (end-proper b2) in
      let w3 = next_word text w2.end in
      let fine = name-fine text names st w (joint_word j) v.bytes v.some v.size (joint-proper j) (joint-short j (omega arith)) (joint-no-world j)
      (ap (λ (o : ℕ). find_body text names o w) nb ∙ no_body text names n w ns (joint_word j) v.bytes (λ o u. body-no-joint o j))
      (ap (λ (o : ℕ). find_joint text names o w) nj ∙ no-joint text names j w js (joint_word j) v.bytes (λ o u. joints-apart o j (omega arith))) in (
        w,
        w2.start,
        w3.start,
        record { starts = v.some; ends = v.within; bytes = v.bytes },
        item-line text names st kw (joint_word j ∷ end_word b1 ∷ end_word b2 ∷ []) rest h p c
            ∙ simp (s.bytes, t, k, fine, nb, nj, lt-ltb j most_items (omega arith), that-end text names n w2 b1 ns p1 x.bytes, that-end text names n w3 b2 ns p2 y.bytes, no_word text w3.end rest y.after),
      )
