-- The printed lines of plain numbers as tables, and that the reader's tables have their words: so a table of lines is read line after line.
use mathlib.Core.Path.{◌≡◌, refl, ap, ◌∙◌}
use mathlib.Core.Bool.{Bool, true, false, cond}
use mathlib.Core.List.{List, [], ◌∷◌, ◌++◌}
use Prim.Native.Nat.{ℕ, ◌+◌, ◌*◌, ◌-◌, ◌≤◌, ◌<◌}
use Prim.Native.String.{String}
use native.Mathlib.Omega.{arith}
use borrow.Author.Tests.{ltb-true}
use lib.Dec.{T, eqb, ltb}
use lib.Ieee.{Float, binary32, fits}
use lib.ListN.{drop}
use Rattle.model.specs.Layout.{limits_width, motor_width}
use Rattle.multibody.specs.Model.{Model}
use Rattle.texts.specs.Ascii.{ascii}
use Rattle.study_reader.specs.Words.{next_word, same_bytes}
use Rattle.study_reader.specs.Keywords.{meaning, axis_words, no_item, settings_item, body_item, joint_item, calls_item}
use Rattle.study_reader.specs.Storage.{numbers_size}
use Rattle.study_reader.specs.Draft.{Draft, item_base}
use Rattle.study_reader.specs.Items.{given1, given2, no_center, numbers_from}
use Rattle.study_reader.specs.Study.{numbers_with, origins_with, line_read}
use Rattle.study_reader.specs.declared.draft.State.{State}
use Rattle.study_reader.specs.declared.items.Numbers.{Numbers}
use Rattle.study_reader.specs.declared.items.Change.TheVariants.{Given}
use Rattle.study_writer.specs.Text.{Line, words_onto, lines_text, number_word}
use Rattle.study_writer.proofs.Lexical.{proper, proper_line, first_word, further-word}
use Rattle.study_writer.proofs.Spelling.{number-proper}
use Rattle.study_writer.proofs.NumberLines.{Seen, seen, field_seen, field-word, one_number, two-numbers, plain-numbers, axis-numbers}
use Rattle.study_writer.proofs.Agrees.{NumbersAgree, model_number, one-stored, two-stored}
use Rattle.study_writer.proofs.Reading.{on, Reading, here, kind-is, numbers-step}

-- ---- so many lines

unfoldable pub read_all : List ℕ → List Line → Draft → Draft
read_all text [] d = d
read_all text (l ∷ ls) d = read_all text ls (line_read text d)

pub all_append : (text : List ℕ) (a b : List Line) (d : Draft) → read_all text (a ++ b) d ≡ read_all text b (read_all text a d)
unfolding read_all
all_append text [] b d = refl
all_append text (l ∷ ls) b d = all_append text ls b (line_read text d)

-- ---- one number or two

abbrev pub many : Bool → ℕ
many two = cond two 2 1

abbrev pub numbers_words : (ℕ → Float) → ℕ → Bool → Line
numbers_words f k two = number_word (f k) ∷ cond two (number_word (f (k + 1)) ∷ []) []

pub numbers-proper : (f : ℕ → Float) (k : ℕ) (two : Bool) → proper_line (numbers_words f k two) ≡ true
numbers-proper f k true = simp number-proper
numbers-proper f k false = simp number-proper

-- what the reader says of them, and that the storage then has them
module _ (text : List ℕ) (at : ℕ) (rest : List ℕ) (f : ℕ → Float) (k width base center : ℕ) (f32 : (c : ℕ) → c < width → T (fits binary32 (f c))) where
  pub numbers-given : (two : Bool) → 0 < at → k + many two ≤ width → drop at text ≡ words_onto (numbers_words f k two) rest
      → (n : Numbers) × (numbers_from text at k (many two) center ≡ Given n) × (n.center ≡ center)
      × ((m : Model) (st : State) (numbers : List Float) (origins : List ℕ) → item_base st ≡ base → ((c : ℕ) → c < width → f c ≡ model_number m (base + c)) → base + width ≤ numbers_size
      → NumbersAgree m (base + k) numbers origins → NumbersAgree m (base + (k + many two)) (numbers_with st n numbers) (origins_with st n origins))
  numbers-given false pos u h =
      let s = further-word text at (number_word (f k)) [] rest h (number-proper (f k)) in
      let a = (next_word text at).start in (
        given1 k (f k) a center,
        one_number text at k center (f k) (f32 k (omega arith)) rest h,
        refl,
        λ m st numbers origins b same room g.
            let e : base + (k + 1) ≡ base + k + 1 = omega arith in
            rw e (one-stored g st k (ap (λ (n : ℕ). n + k) b) (f k) (same k (omega arith)) a (omega (arith, s.later)) center (omega arith)),
      )
  numbers-given true pos u h =
      let s = further-word text at (number_word (f k)) (number_word (f (k + 1)) ∷ []) rest h (number-proper (f k)) in
      let t = further-word text (next_word text at).end (number_word (f (k + 1))) [] rest s.after (number-proper (f (k + 1))) in
      let a = (next_word text at).start in
      let b = (next_word text (next_word text at).end).start in (
        given2 k (f k) (f (k + 1)) a b center,
        two-numbers text at k center (f k) (f32 k (omega arith)) rest (f (k + 1)) (f32 (k + 1) (omega arith)) h,
        refl,
        λ m st numbers origins i same room g.
            let e : base + (k + 2) ≡ base + k + 2 = omega arith in
            let y : base + (k + 1) ≡ base + k + 1 = omega arith in
            rw e
            (two-stored g st k (ap (λ (n : ℕ). n + k) i) (f k) (same k (omega arith)) a (omega (arith, s.later)) (f (k + 1)) (same (k + 1) (omega arith) ∙ ap (model_number m) y) b
            (omega (arith, s.some, t.later)) center (omega arith)),
      )

-- ---- tables of lines

-- a word, whether it has two numbers; of an axis: its word and its number, and the stride
pub data Entry : Type 0 where
  plain : String → Bool → Entry
  of : String → String → ℕ → Bool → ℕ → Entry

abbrev pub size : Entry → ℕ
size (plain w two) = many two
size (of w axis a two stride) = many two

abbrev pub table_size : List Entry → ℕ
table_size [] = 0
table_size (e ∷ es) = size e + table_size es

abbrev pub entry_line : (ℕ → Float) → ℕ → Entry → Line
entry_line f k (plain w two) = ascii w ∷ numbers_words f k two
entry_line f k (of w axis a two stride) = ascii w ∷ ascii axis ∷ numbers_words f k two

-- from number k on
abbrev pub table_lines : (ℕ → Float) → ℕ → List Entry → List Line
table_lines f k [] = []
table_lines f k (e ∷ es) = entry_line f k e ∷ table_lines f (k + size e) es

-- what the reader sees of an axis: that its word is one, its number, that there is a stride and three axes; and the place
pub record Axis : Type 0 where
  pub is-proper : Bool
  pub number : ℕ
  pub no-stride : Bool
  pub small : Bool
  pub place : ℕ

abbrev pub axis_seen : String → ℕ → ℕ → ℕ → Axis
axis_seen axis a stride k = record { is-proper = proper (ascii axis); number = meaning axis_words 3 (ascii axis); no-stride = eqb stride 0; small = ltb a 3; place = k - a * stride + a * stride }

abbrev pub axis_known : ℕ → ℕ → Axis
axis_known a k = record { is-proper = true; number = a; no-stride = false; small = true; place = k }

-- the reader knows the words of a table: kind, place, how many, stride
abbrev Look : Type 0
Look = Seen × Axis

abbrev pub table_seen : ℕ → List Entry → List Look
table_seen k [] = []
table_seen k (plain w two ∷ es) = (seen (ascii w), axis_known 0 k) ∷ table_seen (k + many two) es
table_seen k (of w axis a two stride ∷ es) = (seen (ascii w), axis_seen axis a stride k) ∷ table_seen (k + many two) es

abbrev pub table_known : ℕ → ℕ → List Entry → List Look
table_known kind k [] = []
table_known kind k (plain w two ∷ es) = (field_seen kind k (many two) 0, axis_known 0 k) ∷ table_known kind (k + many two) es
table_known kind k (of w axis a two stride ∷ es) = (field_seen kind (k - a * stride) (many two) stride, axis_known a k) ∷ table_known kind (k + many two) es

abbrev pub Fits : ℕ → ℕ → List Entry → Type 0
Fits kind k es = table_seen k es ≡ table_known kind k es

first : {a b : Look} {xs ys : List Look} → ◌≡◌ {A = List Look} (a ∷ xs) (b ∷ ys) → a ≡ b
first e = cc

rest : {a b : Look} {xs ys : List Look} → ◌≡◌ {A = List Look} (a ∷ xs) (b ∷ ys) → xs ≡ ys
rest e = cc

-- ---- a table is read

module _ (text : List ℕ) (m : Model) (kind item nb nj done base width : ℕ) (f : ℕ → Float) (some-kind : eqb kind no_item ≡ false) (before-calls : eqb kind calls_item ≡ false)
    (starts : (st : State) (at : ℕ) → st ≡ on at kind item nb nj → item_base st ≡ base) (f32 : (c : ℕ) → c < width → T (fits binary32 (f c)))
    (same : (c : ℕ) → c < width → f c ≡ model_number m (base + c)) (room : base + width ≤ numbers_size) where
  plain-read : (w : String) (two : Bool) (k : ℕ) → k + many two ≤ width → ◌≡◌ {A = Look} (seen (ascii w), axis_known 0 k) (field_seen kind k (many two) 0, axis_known 0 k) → {ls : List Line} {d : Draft}
      → Reading text m kind item nb nj (base + k) done (entry_line f k (plain w two) ∷ ls) d → Reading text m kind item nb nj (base + (k + many two)) done ls (line_read text d)
  plain-read w two k u t {ls} {d} r =
      let fw = field-word kind some-kind before-calls (ap (λ (x : Look). x.0) t) in
      let s = first_word text d.state.at (ascii w) (numbers_words f k two) (lines_text ls) (here r) fw.is-proper in
      let g = numbers-given text (next_word text d.state.at).end (lines_text ls) f k width base no_center f32 two (omega (arith, s.some)) u s.after in
      numbers-step r (simp (fw.is-proper, numbers-proper f k two)) g.0
      (plain-numbers text d.names d.state (ascii w) (numbers_words f k two) (lines_text ls) (here r) kind k (many two) 0 fw (kind-is r) refl ∙ g.1) g.2
      (g.3 m d.state d.numbers d.origins (starts d.state r.at r.state) same room r.agrees.numbers)

  axis-read : (w axis : String) (a : ℕ) (two : Bool) (stride k : ℕ) → k + many two ≤ width
      → ◌≡◌ {A = Look} (seen (ascii w), axis_seen axis a stride k) (field_seen kind (k - a * stride) (many two) stride, axis_known a k) → {ls : List Line} {d : Draft}
      → Reading text m kind item nb nj (base + k) done (entry_line f k (of w axis a two stride) ∷ ls) d → Reading text m kind item nb nj (base + (k + many two)) done ls (line_read text d)
  axis-read w axis a two stride k u t {ls} {d} r =
      let fw = field-word kind some-kind before-calls (ap (λ (x : Look). x.0) t) in
      let v = ap (λ (x : Look). x.1) t in
      let pa : proper (ascii axis) ≡ true = ap (λ (x : Axis). x.is-proper) v in
      let am : meaning axis_words 3 (ascii axis) ≡ a = ap (λ (x : Axis). x.number) v in
      let z : eqb stride 0 ≡ false = ap (λ (x : Axis). x.no-stride) v in
      let e : k - a * stride + a * stride ≡ k = ap (λ (x : Axis). x.place) v in
      let l : a < 3 = ltb-true a 3 (ap (λ (x : Axis). x.small) v) in
      let ws = numbers_words f k two in
      let s = first_word text d.state.at (ascii w) (ascii axis ∷ ws) (lines_text ls) (here r) fw.is-proper in
      let at = (next_word text d.state.at).end in
      let s' = further-word text at (ascii axis) ws (lines_text ls) s.after pa in
      let g = numbers-given text (next_word text at).end (lines_text ls) f k width base no_center f32 two (omega (arith, s'.some)) u s'.after in
      numbers-step r (simp (fw.is-proper, pa, numbers-proper f k two)) g.0
      (axis-numbers text d.names d.state (ascii w) (ascii axis ∷ ws) (lines_text ls) (here r) a (ascii axis) ws refl pa am l kind (k - a * stride) (many two) stride fw (kind-is r) z
      ∙ ap (λ (n : ℕ). numbers_from text (next_word text at).end n (many two) no_center) e ∙ g.1) g.2
      (g.3 m d.state d.numbers d.origins (starts d.state r.at r.state) same room r.agrees.numbers)

  pub table-read : (es : List Entry) (k : ℕ) → k + table_size es ≤ width → Fits kind k es → {ls : List Line} {d : Draft} → Reading text m kind item nb nj (base + k) done (table_lines f k es ++ ls) d
      → Reading text m kind item nb nj (base + (k + table_size es)) done ls (read_all text (table_lines f k es) d)
  unfolding read_all
  table-read [] k u t r = let e : k + 0 ≡ k = omega arith in rw e r
  table-read (plain w two ∷ es) k u t r =
      let e : k + (many two + table_size es) ≡ k + many two + table_size es = omega arith in
      rw e (table-read es (k + many two) (omega arith) (rest t) (plain-read w two k (omega arith) (first t) r))
  table-read (of w axis a two stride ∷ es) k u t r =
      let e : k + (many two + table_size es) ≡ k + many two + table_size es = omega arith in
      rw e (table-read es (k + many two) (omega arith) (rest t) (axis-read w axis a two stride k (omega arith) (first t) r))

-- ---- the tables

abbrev pub settings_table : List Entry
settings_table = plain "dt" false ∷ plain "length_unit" false ∷ plain "normalized_max_corrective_velocity" false ∷ []

abbrev pub body_table : List Entry
body_table = plain "rotation" true ∷ plain "position" true ∷ plain "inverse_inertia" false ∷ plain "inverse_masses" true ∷ plain "velocity" true ∷ plain "angular_velocity" false ∷ []

-- of an axis
abbrev limits_table : String → ℕ → List Entry
limits_table axis a = of "limits" axis a true limits_width ∷ of "limit_impulse" axis a false limits_width ∷ []

abbrev motor_table : String → ℕ → List Entry
motor_table axis a =
    of "target_velocity" axis a false motor_width
    ∷ of "target_position" axis a false motor_width
    ∷ of "stiffness" axis a false motor_width
    ∷ of "damping" axis a false motor_width
    ∷ of "max_force" axis a false motor_width
    ∷ of "motor_impulse" axis a false motor_width
    ∷ []

-- all of a joint but its centre
abbrev pub joint_table : List Entry
joint_table =
    (plain "frame1_rotation" true ∷ plain "frame1" true ∷ plain "frame2_rotation" true ∷ plain "frame2" true ∷ [])
    ++ (limits_table "x" 0
    ++ (limits_table "y" 1
    ++ (limits_table "angle" 2
    ++ (motor_table "x" 0
    ++ (motor_table "y" 1
    ++ (motor_table "angle" 2
    ++ (plain "natural_frequency" false ∷ plain "damping_ratio" false ∷ of "impulse" "x" 0 false 1 ∷ of "impulse" "y" 1 false 1 ∷ of "impulse" "angle" 2 false 1 ∷ [])))))))

pub settings-known : Fits settings_item 0 settings_table
unfolding meaning same_bytes
settings-known = refl

pub body-known : Fits body_item 0 body_table
unfolding meaning same_bytes
body-known = refl

pub joint-known : Fits joint_item 0 joint_table
unfolding meaning same_bytes
joint-known = refl
