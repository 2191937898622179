-- What the printed lines of numbers say.
use mathlib.Core.Path.{◌≡◌, refl, ap, ◌∙◌}
use mathlib.Core.Bool.{Bool, true, false}
use mathlib.Core.List.{List, [], ◌∷◌, ◌++◌}
use Prim.Native.Nat.{ℕ, ◌+◌, ◌*◌, ◌<◌}
use native.Mathlib.Omega.{arith}
use borrow.Author.Tests.{eq-eqb, ne_eqb, lt-leb, le-ltb}
use lib.Dec.{T, eqb}
use lib.Ieee.{Float, binary32, fits}
use lib.ListN.{drop}
use Rattle.study_reader.specs.Words.{next_word}
use Rattle.study_reader.specs.Numbers.{number_fault, value_of}
use Rattle.study_reader.specs.Keywords.{meaning, field, no_field, settings_fields, body_fields, frame_fields, motor_fields, softness_fields, axis_words, item_words, body_words, mask_words, joint_words, call_words, read_words, no_item, joint_item, calls_item, settings_keyword, angle_keyword}
use Rattle.study_reader.specs.Items.{or_fault, whole, given1, given2, second_number, numbers_from, field_numbers, word_line, kind_fault, field_line, item_line, line_of, no_center}
use Rattle.study_reader.specs.declared.words.Word.{Word}
use Rattle.study_reader.specs.declared.draft.State.{State}
use Rattle.study_reader.specs.declared.fields.Field.{Field}
use Rattle.study_reader.specs.declared.items.Change.TheVariants.{Given}
use Rattle.study_writer.specs.Text.{Line, words_onto, line_onto, number_word}
use Rattle.study_writer.proofs.Lexical.{proper, first_word, further-word, no_word, not-empty}
use Rattle.study_writer.proofs.Spelling.{number-proper, number_read}

-- ---- one number or two

module _ (text : List ℕ) (at place center : ℕ) (x : Float) (fx : T (fits binary32 x)) (rest : List ℕ) where
  pub one_number : drop at text ≡ words_onto (number_word x ∷ []) rest
      → numbers_from text at place 1 center ≡ Given (given1 place x (next_word text at).start center)
  unfolding numbers_from whole or_fault number_fault value_of
  one_number h =
      let s = further-word text at (number_word x) [] rest h (number-proper x) in
      let e = no_word text (next_word text at).end rest s.after in
      simp (number_read text (next_word text at) x fx s.bytes, e)

  pub two-numbers : (y : Float) → T (fits binary32 y) → drop at text ≡ words_onto (number_word x ∷ number_word y ∷ []) rest
      → numbers_from text at place 2 center
      ≡ Given (given2 place x y (next_word text at).start (next_word text (next_word text at).end).start center)
  unfolding numbers_from second_number whole or_fault number_fault value_of
  two-numbers y fy h =
      let s = further-word text at (number_word x) (number_word y ∷ []) rest h (number-proper x) in
      let t = further-word text (next_word text at).end (number_word y) [] rest s.after (number-proper y) in
      let e = no_word text (next_word text (next_word text at).end).end rest t.after in
      simp (number_read text (next_word text at) x fx s.bytes, number_read text (next_word text (next_word text at).end) y fy t.bytes, e)

-- ---- the word of a line

abbrev pub item_table : List ℕ → ℕ
item_table kw = meaning (item_words ++ (body_words ++ (mask_words ++ joint_words))) 0 kw

abbrev pub call_table : List ℕ → ℕ
call_table kw = meaning (call_words ++ read_words) 0 kw

-- a word of numbers: kind, place, how many, stride
pub record FieldWord (kw : List ℕ) (kind place many stride : ℕ) : Type 0 where
  pub is-proper : proper kw ≡ true
  pub no_call : call_table kw ≡ 0
  pub no-item : item_table kw ≡ 0
  pub means : meaning (settings_fields ++ (body_fields ++ (frame_fields ++ (motor_fields ++ softness_fields)))) no_field kw ≡ field kind place many stride
  pub some-kind : eqb kind no_item ≡ false
  pub before-calls : eqb kind calls_item ≡ false

-- what the reader's tables say of a word, in one
pub record Seen : Type 0 where
  pub is-proper : Bool
  pub call : ℕ
  pub item : ℕ
  pub numbers : Field

abbrev pub seen : List ℕ → Seen
seen kw = record { is-proper = proper kw; call = call_table kw; item = item_table kw; numbers = meaning (settings_fields ++ (body_fields ++ (frame_fields ++ (motor_fields ++ softness_fields)))) no_field kw }

abbrev pub field_seen : ℕ → ℕ → ℕ → ℕ → Seen
field_seen kind place many stride = record { is-proper = true; call = 0; item = 0; numbers = field kind place many stride }

pub field-word : {kw : List ℕ} (kind : ℕ) {place many stride : ℕ} → eqb kind no_item ≡ false → eqb kind calls_item ≡ false → seen kw ≡ field_seen kind place many stride → FieldWord kw kind place many stride
field-word kind k c e =
    record {
      is-proper = ap (λ (s : Seen). s.is-proper) e;
      no_call = ap (λ (s : Seen). s.call) e;
      no-item = ap (λ (s : Seen). s.item) e;
      means = ap (λ (s : Seen). s.numbers) e;
      some-kind = k;
      before-calls = c;
    }

-- another word, by its number
pub record Keyword (kw : List ℕ) (k : ℕ) : Type 0 where
  pub is-proper : proper kw ≡ true
  pub no_call : call_table kw ≡ 0
  pub means : item_table kw ≡ k

pub keyword : {kw : List ℕ} {k : ℕ} → ◌≡◌ {A = Bool × ℕ × ℕ} (proper kw, call_table kw, item_table kw) (true, 0, k) → Keyword kw k
keyword e =
    record {
      is-proper = ap (λ (t : Bool × ℕ × ℕ). t.0) e;
      no_call = ap (λ (t : Bool × ℕ × ℕ). t.1) e;
      means = ap (λ (t : Bool × ℕ × ℕ). t.2) e;
    }

module _ (text names : List ℕ) (st : State) (kw : List ℕ) (ws : Line) (rest : List ℕ) (here : drop st.at text ≡ line_onto (kw ∷ ws) rest) where
  abbrev w : Word
  w = next_word text st.at

  pub item-line : proper kw ≡ true → call_table kw ≡ 0 → line_of text names st ≡ item_line text names st w
  unfolding line_of
  item-line p c =
      let s = first_word text st.at kw ws rest here p in
      simp (not-empty w s.some, s.bytes, c)

  module _ (kind place many stride : ℕ) (f : FieldWord kw kind place many stride) (k : st.kind ≡ kind) where
    pub field-line : line_of text names st ≡ field_numbers text w
    unfolding item_line field_line or_fault kind_fault
    field-line =
        let s = first_word text st.at kw ws rest here f.is-proper in
        item-line f.is-proper f.no_call
        ∙ simp (s.bytes, f.no-item, f.means, f.some-kind, k, f.before-calls, eq-eqb kind kind refl)

    -- with no axis
    pub plain-numbers : stride ≡ 0 → line_of text names st ≡ numbers_from text w.end place many no_center
    unfolding field_numbers
    plain-numbers z =
        let s = first_word text st.at kw ws rest here f.is-proper in
        field-line ∙ simp (s.bytes, f.means, z)

  -- after an axis
  module _ (axis : ℕ) (aw : List ℕ) (vs : Line) (e : ws ≡ aw ∷ vs) (ap' : proper aw ≡ true) (am : meaning axis_words 3 aw ≡ axis) (small : axis < 3) (kind place many stride : ℕ) (f : FieldWord kw kind place many stride) (k : st.kind ≡ kind) where
    pub axis-numbers : eqb stride 0 ≡ false
        → line_of text names st ≡ numbers_from text (next_word text w.end).end (place + axis * stride) many no_center
    unfolding field_numbers
    axis-numbers z =
        let s = first_word text st.at kw ws rest here f.is-proper in
        let t = further-word text w.end aw vs rest (s.after ∙ ap (λ (l : Line). words_onto l rest) e) ap' in
        field-line kind place many stride f k ∙ simp (s.bytes, f.means, z, t.bytes, am, le-ltb 2 axis (omega arith))

  -- the other words of a joint
  pub keyword-line : (k : ℕ) → Keyword kw k → angle_keyword < k → k < settings_keyword → st.kind ≡ joint_item → line_of text names st ≡ word_line text k w
  unfolding item_line or_fault kind_fault
  keyword-line k f l h e =
      let s = first_word text st.at kw ws rest here f.is-proper in
      item-line f.is-proper f.no_call
      ∙ simp (s.bytes, f.means, ne_eqb k 0 (λ q. omega arith), lt-leb settings_keyword k h, lt-leb k angle_keyword l, e)
