-- What the storage has of a model while its text is read: the numbers and the words below a place, and the names of so many bodies and joints.
use mathlib.Core.Path.{◌≡◌, refl, ◌∙◌}
use mathlib.Core.Bool.{true, cond}
use mathlib.Core.List.{List, [], ◌∷◌}
use Prim.Native.Nat.{ℕ, ◌+◌, ◌*◌, ◌-◌, ◌/◌, ◌%◌, ◌≤◌, ◌<◌}
use native.Mathlib.Omega.{arith}
use borrow.Author.Tests.{eqb-true, eqb-false, lt-ltb, le-ltb, ltb-true, ltb-false}
use lib.Dec.{eqb, ltb}
use lib.Ieee.{Float, nan}
use lib.ListN.{length, get_or, set, length-set}
use lib.Seq.{get_or-set_same, get_or-set_other}
use Rattle.model.specs.Layout.{body_width, words_width, models_place, enabled_place, center_choice_place, first_row_place, numbers_width, center_place}
use Rattle.model.specs.Planar.{plane}
use Rattle.multibody.specs.Model.{Model}
use Rattle.multibody.specs.Counts.{body_count}
use Rattle.study_reader.specs.Words.{bytes_of}
use Rattle.study_reader.specs.Names.{name_at}
use Rattle.study_reader.specs.Storage.{most_items, settings_width, joints_place, numbers_size, words_size, joint_names, names_size, kept}
use Rattle.study_reader.specs.Draft.{Default, item_base, puts}
use Rattle.study_reader.specs.Items.{given1, given2}
use Rattle.study_reader.specs.Study.{second, numbers_with, origins_with, name_with}
use Rattle.study_reader.specs.declared.words.Word.{Word}
use Rattle.study_reader.specs.declared.draft.State.{State}
use Rattle.study_reader.proofs.Places.{by_cases}
use Rattle.study_writer.specs.Text.{body_word, joint_word}
use Rattle.study_writer.proofs.NameLines.{BodyNames, JointNames, Name}

-- ---- the model's numbers and words, by their places in the storage

-- the settings, the bodies' numbers, the joints' numbers
unfoldable pub model_number : Model → ℕ → Float
model_number m p =
    cond (ltb p settings_width) (get_or (m.params.dt ∷ m.params.length_unit ∷ m.params.normalized_max_corrective_velocity ∷ []) p nan)
    (cond (ltb p joints_place) (get_or m.bodies (p - settings_width) nan) (get_or m.numbers (p - joints_place) nan))

pub body-number : (m : Model) (c : ℕ) → c < most_items * body_width → model_number m (settings_width + c) ≡ get_or m.bodies c nan
unfolding model_number
body-number m c h =
    let e : settings_width + c - settings_width ≡ c = omega arith in
    simp (le-ltb (settings_width + c) settings_width (omega arith), lt-ltb (settings_width + c) joints_place (omega arith), e)

pub joint-number : (m : Model) (c : ℕ) → model_number m (joints_place + c) ≡ get_or m.numbers c nan
unfolding model_number
joint-number m c =
    let e : joints_place + c - joints_place ≡ c = omega arith in
    simp (le-ltb (joints_place + c) settings_width (omega arith), le-ltb (joints_place + c) joints_place (omega arith), e)

-- the number beside an angle is nobody's
abbrev pub Matters : Model → ℕ → Type 0
Matters m c = c % numbers_width ≡ center_place + 1 → eqb (get_or m.words (c / numbers_width * words_width + center_choice_place) 0) 0 ≡ true

-- the places of the model's own numbers: the others are of bodies that it does not have, or beside an angle
pub record Told (m : Model) (p : ℕ) : Type 0 where
  pub body : p < joints_place → p < settings_width + body_count plane m.bodies * body_width
  pub joint : joints_place ≤ p → Matters m (p - joints_place)

-- a joint's first row is none of its contents
abbrev pub IsContents : ℕ → Type 0
IsContents c = c % words_width ≡ first_row_place → ⊥

-- a motor's model and a kind of centre are 0 or 1, `JointEnabled` is 0, 1 or 2
abbrev pub binary : ℕ → ℕ
binary v = cond (eqb v 0) 0 1

abbrev pub ternary : ℕ → ℕ
ternary v = cond (eqb v 0) 0 (cond (eqb v 1) 1 2)

unfoldable pub canonical : ℕ → ℕ → ℕ
canonical k v = cond (ltb k models_place) v (cond (eqb k enabled_place) (ternary v) (binary v))

abbrev pub model_word_at : Model → ℕ → ℕ
model_word_at m c = canonical (c % words_width) (get_or m.words c 0)

pub word_at : (m : Model) (j k : ℕ) → k < words_width → model_word_at m (j * words_width + k) ≡ canonical k (get_or m.words (j * words_width + k) 0)
word_at m j k h = let e : (j * words_width + k) % words_width ≡ k = omega arith in rw e refl

-- ---- a list that has n places, and agrees at all that are below one

pub record Below {A : Type 0} (l : List A) (z : A) (n top : ℕ) (P : ℕ → A → Type 0) : Type 0 where
  pub room : n ≤ length l
  pub has : (p : ℕ) → p < top → P p (get_or l p z)

module _ {A : Type 0} {l : List A} {z : A} {n top : ℕ} {P : ℕ → A → Type 0} (h : Below l z n top P) where
  pub below_next : (x : A) → P top x → top < n → Below (set l top x) z n (top + 1) P
  below_next x q r =
      record {
        room = rw length-set h.room;
        has = λ p u. by_cases (eqb p top) (λ e. rw (eqb-true p top e, get_or-set_same l top x z (omega (arith, h.room))) q)
            (λ e. let o = eqb-false p top e in rw (get_or-set_other l top p x z o) (h.has p (omega arith)));
      }

  pub below-past : (p : ℕ) (x : A) → top ≤ p → Below (set l p x) z n top P
  below-past p x r = record { room = rw length-set h.room; has = λ q u. rw (get_or-set_other l p q x z (λ e. omega arith)) (h.has q u) }

  pub below-skip : (top' : ℕ) → ((p : ℕ) (x : A) → top ≤ p → p < top' → P p x) → Below l z n top' P
  below-skip top' f =
      record {
        room = h.room;
        has = λ p u. by_cases (ltb p top) (λ e. h.has p (ltb-true p top e)) (λ e. f p (get_or l p z) (ltb-false p top e) u);
      }

-- ---- numbers and where the text gives them

abbrev pub IsNumber : Model → ℕ → Float → Type 0
IsNumber m p x = Told m p → x ≡ model_number m p

abbrev pub IsGiven : Model → ℕ → ℕ → Type 0
IsGiven m p a = Told m p → 0 < a

pub record NumbersAgree (m : Model) (top : ℕ) (numbers : List Float) (origins : List ℕ) : Type 0 where
  pub values : Below numbers nan numbers_size top (IsNumber m)
  pub given : Below origins 0 numbers_size top (IsGiven m)

pub kept-some : (a : ℕ) → 0 < a → 0 < kept a
unfolding kept
kept-some a h = by_cases (ltb a 4294967295) (λ t. rw t h) (λ t. rw t (omega arith))

module _ {m : Model} {top : ℕ} {numbers : List Float} {origins : List ℕ} (h : NumbersAgree m top numbers origins) where
  pub number-next : (x : Float) (a : ℕ) → x ≡ model_number m top → 0 < a → top < numbers_size → NumbersAgree m (top + 1) (set numbers top x) (set origins top (kept a))
  number-next x a e q r = record { values = below_next h.values x (λ t. e) r; given = below_next h.given (kept a) (λ t. kept-some a q) r }

  pub numbers-skip : (top' : ℕ) → ((p : ℕ) → top ≤ p → p < top' → Told m p → ⊥) → NumbersAgree m top' numbers origins
  numbers-skip top' f = record { values = below-skip h.values top' (λ p x u v t. absurd (f p u v t)); given = below-skip h.given top' (λ p x u v t. absurd (f p u v t)) }

  -- an origin of a word stands past those of the numbers
  pub origin-past : (p a : ℕ) → top ≤ p → NumbersAgree m top numbers (set origins p a)
  origin-past p a r = record { values = h.values; given = below-past h.given p a r }

pub puts-length : (base : ℕ) (ds : List Default) (l : List Float) → length (puts base ds l) ≡ length l
unfolding puts
puts-length base [] l = refl
puts-length base (d ∷ ds) l = puts-length base ds (set l (base + d.place) d.value) ∙ length-set l (base + d.place) d.value

-- and so do the defaults of an item that is opened
pub puts-past : {m : Model} {top : ℕ} {numbers : List Float} {origins : List ℕ} (base : ℕ) (ds : List Default) → top ≤ base → NumbersAgree m top numbers origins → NumbersAgree m top (puts base ds numbers) origins
unfolding puts
puts-past base [] r h = h
puts-past {numbers = numbers} base (d ∷ ds) r h =
    puts-past {numbers = set numbers (base + d.place) d.value} base ds r (record { values = below-past h.values (base + d.place) d.value (omega arith); given = h.given })

module _ {m : Model} {top : ℕ} {numbers : List Float} {origins : List ℕ} (h : NumbersAgree m top numbers origins) (st : State) (k : ℕ) (here : item_base st + k ≡ top) (x : Float) (ex : x ≡ model_number m top) (a : ℕ) (pa : 0 < a) where
  pub one-stored : (center : ℕ) → top < numbers_size → NumbersAgree m (top + 1) (numbers_with st (given1 k x a center) numbers) (origins_with st (given1 k x a center) origins)
  unfolding numbers_with origins_with second
  one-stored center r = rw here (number-next h x a ex pa r)

  pub two-stored : (y : Float) → y ≡ model_number m (top + 1) → (b : ℕ) → 0 < b → (center : ℕ) → top + 1 < numbers_size
      → NumbersAgree m (top + 2) (numbers_with st (given2 k x y a b center) numbers) (origins_with st (given2 k x y a b center) origins)
  unfolding numbers_with origins_with second
  two-stored y ey b pb center r =
      let e : top + 1 + 1 ≡ top + 2 = omega arith in
      rw (here, ← e) (number-next (number-next h x a ex pa (omega arith)) y b ey pb r)

-- ---- words

abbrev pub IsWord : Model → ℕ → ℕ → Type 0
IsWord m c w = IsContents c → w ≡ model_word_at m c

abbrev pub WordsAgree : Model → ℕ → List ℕ → Type 0
WordsAgree m done words = Below words 0 words_size done (IsWord m)

-- ---- names

kept_same : (a : ℕ) → a < 4294967295 → kept a ≡ a
unfolding kept
kept_same a h = rw (lt-ltb a 4294967295 h) refl

module _ (names : List ℕ) (p a b : ℕ) where
  name_new : p + 1 < length names → name_at (set (set names p a) (p + 1) b) p ≡ record { start = a; end = b }
  unfolding name_at
  name_new r =
      let x = get_or-set_other (set names p a) (p + 1) p b 0 (λ y. omega arith) ∙ get_or-set_same names p a 0 (omega arith) in
      let y = get_or-set_same (set names p a) (p + 1) b 0 (rw length-set r) in
      rw (x, y)

  name-old : (q : ℕ) → q + 1 < p → name_at (set (set names p a) (p + 1) b) q ≡ name_at names q
  unfolding name_at
  name-old q r =
      let x = get_or-set_other (set names p a) (p + 1) q b 0 (λ y. omega arith) ∙ get_or-set_other names p q a 0 (λ y. omega arith) in
      let y = get_or-set_other (set names p a) (p + 1) (q + 1) b 0 (λ y. omega arith) ∙ get_or-set_other names p (q + 1) a 0 (λ y. omega arith) in
      rw (x, y)

pub names-length : (from i : ℕ) (w : Word) (names : List ℕ) → length (name_with from i w names) ≡ length names
unfolding name_with
names-length from i w names = simp length-set

module _ (text names : List ℕ) (small : length text < 4294967295) (w : Word) where
  -- the next of the names that start at a place
  named : (from n : ℕ) (word : ℕ → List ℕ) → from + 2 * n + 1 < length names → ((k : ℕ) → k < n → bytes_of text (name_at names (from + 2 * k)) ≡ word k) → Name text w (word n)
      → (k : ℕ) → k < n + 1 → bytes_of text (name_at (name_with from n w names) (from + 2 * k)) ≡ word k
  unfolding name_with
  named from n word r h e k q =
      by_cases (eqb k n)
      (λ t. let a = kept_same w.start (omega (arith, e.starts, e.ends)) in let b = kept_same w.end (omega (arith, e.ends)) in
      rw (eqb-true k n t, name_new names (from + 2 * n) (kept w.start) (kept w.end) r, a, b) e.bytes)
      (λ t. let o = eqb-false k n t in rw (name-old names (from + 2 * n) (kept w.start) (kept w.end) (from + 2 * k) (omega arith)) (h k (omega arith)))

  pub body-named : (n : ℕ) → n < most_items → names_size ≤ length names → BodyNames text names n → Name text w (body_word n) → BodyNames text (name_with 0 n w names) (n + 1)
  body-named n l r h e k q =
      let z : (i : ℕ) → 2 * i ≡ 0 + 2 * i = λ i. omega arith in
      rw (z k) (named 0 n body_word (omega arith) (λ i u. rw (← z i) (h i u)) e k q)

  pub joint-named : (n : ℕ) → n < most_items → names_size ≤ length names → JointNames text names n → Name text w (joint_word n) → JointNames text (name_with joint_names n w names) (n + 1)
  joint-named n l r h e k q = named joint_names n joint_word (omega arith) h e k q

  -- the bodies' names stand before the joints'
  pub bodies-named : (n j : ℕ) → n ≤ most_items → BodyNames text names n → BodyNames text (name_with joint_names j w names) n
  unfolding name_with
  bodies-named n j l h k q = rw (name-old names (joint_names + 2 * j) (kept w.start) (kept w.end) (2 * k) (omega arith)) (h k q)

-- ---- the storage

pub record Agrees (text : List ℕ) (m : Model) (top done nb nj : ℕ) (xs : List Float) (os ws ns : List ℕ) : Type 0 where
  pub numbers : NumbersAgree m top xs os
  pub words : WordsAgree m done ws
  pub names_room : names_size ≤ length ns
  pub body-names : BodyNames text ns nb
  pub joint-names : JointNames text ns nj
