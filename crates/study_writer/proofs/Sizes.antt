-- The text of a model is short: its places fit 32 bits, and it has at least as many bytes as lines.
use mathlib.Core.Path.{◌≡◌, refl, ◌∙◌}
use mathlib.Core.Bool.{Bool, true, false, cond, ◌||◌, ◌&&◌}
use mathlib.Core.List.{List, [], ◌∷◌, ◌++◌}
use Prim.Native.Nat.{ℕ, zero, suc, ◌+◌, ◌*◌, ◌/◌, ◌%◌, ◌≤◌, ◌<◌}
use native.Mathlib.Omega.{arith}
use borrow.Author.Tests.{le-leb, leb-true, ltb-true, ltb-false, eqb-true}
use lib.Dec.{leb, ltb, eqb}
use lib.Ieee.{Float}
use lib.ListN.{length, get_or, length-append}
use Rattle.decimals.specs.Text.{bits_text}
use Rattle.texts.specs.Hex.{hex_word}
use Rattle.texts.specs.Digits.{digit, decimal_onto, decimal}
use Rattle.model.specs.Layout.{body_width, words_width, body1_place, body2_place, masks_place, center_choice_place, numbers_width, center_place}
use Rattle.model.specs.Records.{num, word}
use Rattle.model.specs.Store.{world}
use Rattle.multibody.specs.Model.{Model, most_bodies, most_joints}
use Rattle.multibody.specs.Counts.{body_count, joint_count}
use Rattle.model.specs.Planar.{plane}
use Rattle.texts.specs.Ascii.{ascii}
use Rattle.study_writer.specs.Text.{Line, words_onto, line_onto, lines_text, number_word, two, one, settings_lines, body_word, body_lines, items_from, bodies_from, joint_word, end_word, model_word, enabled_word, center_line, joint_lines, joints_from, study_lines, study_text}
use Rattle.study_writer.proofs.Lexical.{both}

-- ---- words of at most 64 bytes, lines of at most four words

abbrev pub short_word : List ℕ → Bool
short_word w = leb (length w) 64

abbrev pub short_words : Line → Bool
short_words [] = true
short_words (w ∷ ws) = short_word w && short_words ws

abbrev pub short_lines : List Line → Bool
short_lines [] = true
short_lines (l ∷ ls) = short_words l && (leb (length l) 4 && short_lines ls)

words-length : (ws : Line) (rest : List ℕ) → short_words ws ≡ true → length (words_onto ws rest) ≤ 65 * length ws + 1 + length rest
unfolding words_onto
words-length [] rest h = omega arith
words-length (w ∷ ws) rest h =
    let p = both (short_word w) (short_words ws) h in
    omega (arith, length-append w (words_onto ws rest), leb-true (length w) 64 p.0, words-length ws rest p.1)

words-longer : (ws : Line) (rest : List ℕ) → length rest < length (words_onto ws rest)
unfolding words_onto
words-longer [] rest = omega arith
words-longer (w ∷ ws) rest = omega (arith, length-append w (words_onto ws rest), words-longer ws rest)

line-length : (l : Line) (rest : List ℕ) → short_words l ≡ true → (length (line_onto l rest) ≤ 65 * length l + 1 + length rest) × (length rest < length (line_onto l rest))
unfolding line_onto
line-length [] rest h = (omega arith, omega arith)
line-length (w ∷ ws) rest h =
    let p = both (short_word w) (short_words ws) h in (
      omega (arith, length-append w (words_onto ws rest), leb-true (length w) 64 p.0, words-length ws rest p.1),
      omega (arith, length-append w (words_onto ws rest), words-longer ws rest),
    )

pub lines-length : (ls : List Line) → short_lines ls ≡ true → (length (lines_text ls) ≤ 261 * length ls) × (length ls ≤ length (lines_text ls))
unfolding lines_text
lines-length [] h = (omega arith, omega arith)
lines-length (l ∷ ls) h =
    let p = both (short_words l) (leb (length l) 4 && short_lines ls) h in
    let q = both (leb (length l) 4) (short_lines ls) p.1 in
    let a = line-length l (lines_text ls) p.0 in
    let b = lines-length ls q.1 in
    let c = leb-true (length l) 4 q.0 in
    (omega arith, omega arith)

pub short-append : (a b : List Line) → short_lines a ≡ true → short_lines b ≡ true → short_lines (a ++ b) ≡ true
short-append [] b h k = k
short-append (l ∷ ls) b h k =
    let p = both (short_words l) (leb (length l) 4 && short_lines ls) h in
    let q = both (leb (length l) 4) (short_lines ls) p.1 in
    simp (p.0, q.0, short-append ls b q.1 k)

-- ---- the words that are printed

number_short : (x : Float) → short_word (number_word x) ≡ true
unfolding number_word bits_text hex_word
number_short x = refl

unfoldable tens : ℕ → ℕ
tens zero = 1
tens (suc k) = tens k * 10

onto-few : (k s n : ℕ) (text : List ℕ) → n < tens (suc k) → length (decimal_onto s n text) ≤ length text + suc k
unfolding decimal_onto tens
onto-few k zero n text h = omega arith
onto-few zero (suc s) n text h = first (ltb n 10) refl
  where
    first : (t : Bool) → ltb n 10 ≡ t → length {A = ℕ} (elim t [ true ↦ digit n ∷ text | false ↦ decimal_onto s (n / 10) (digit (n % 10) ∷ text) ]) ≤ length text + 1
    first true e = omega arith
    first false e = absurd (let z : ⊥ = omega (arith, ltb-false n 10 e) in z)
onto-few (suc k) (suc s) n text h = go (ltb n 10) (onto-few k s (n / 10) (digit (n % 10) ∷ text) (omega arith))
  where
    go : (t : Bool) → length (decimal_onto s (n / 10) (digit (n % 10) ∷ text)) ≤ length (digit (n % 10) ∷ text) + suc k
        → length {A = ℕ} (elim t [ true ↦ digit n ∷ text | false ↦ decimal_onto s (n / 10) (digit (n % 10) ∷ text) ]) ≤ length text + suc (suc k)
    go true ih = omega arith
    go false ih = omega arith

-- a number of 32 bits has at most ten digits
pub decimal-few : (n : ℕ) → n < 10000000000 → length (decimal n) ≤ 10
unfolding decimal tens
decimal-few n h = onto-few 9 n n [] h

decimal-word : (n : ℕ) → n < 10000000000 → short_word (decimal n) ≡ true
decimal-word n h = le-leb (length (decimal n)) 64 (omega (arith, decimal-few n h))

body-word : (i : ℕ) → i < 10000000000 → short_word (body_word i) ≡ true
unfolding body_word
body-word i h = le-leb (suc (length (decimal i))) 64 (omega (arith, decimal-few i h))

joint-word : (j : ℕ) → j < 10000000000 → short_word (joint_word j) ≡ true
unfolding joint_word
joint-word j h = le-leb (suc (length (decimal j))) 64 (omega (arith, decimal-few j h))

end-word : (i : ℕ) → i < 10000000000 → short_word (end_word i) ≡ true
unfolding end_word
end-word i h = go (eqb i world)
  where
    go : (t : Bool) → short_word (cond t (ascii "world") (body_word i)) ≡ true
    go true = refl
    go false = body-word i h

model-word : (v : ℕ) → short_word (model_word v) ≡ true
unfolding model_word
model-word v = go (eqb v 0)
  where
    go : (t : Bool) → short_word (cond t (ascii "acceleration") (ascii "force")) ≡ true
    go true = refl
    go false = refl

enabled-word : (v : ℕ) → short_word (enabled_word v) ≡ true
unfolding enabled_word
enabled-word v = go (eqb v 0) (eqb v 1)
  where
    go : (s t : Bool) → short_word (cond s (ascii "enabled") (cond t (ascii "disabled_by_attached_body") (ascii "disabled"))) ≡ true
    go true t = refl
    go false true = refl
    go false false = refl

center-short : (c : ℕ) (x y : Float) → (short_words (center_line c x y) ≡ true) × (leb (length (center_line c x y)) 4 ≡ true)
unfolding center_line
center-short c x y = go (eqb c 0)
  where
    go : (t : Bool) → (short_words (cond t (two "center" x y) (one "center_angle" x)) ≡ true) × (leb (length {A = List ℕ} (cond t (two "center" x y) (one "center_angle" x))) 4 ≡ true)
    go true = (simp (number_short x, number_short y), refl)
    go false = (simp (number_short x), refl)

-- ---- the lines

body-lines : (i : ℕ) (f : ℕ → Float) → i < 10000000000 → short_lines (body_lines i f) ≡ true
unfolding body_lines
body-lines i f l = simp (body-word i l, number_short)

body-many : (i : ℕ) (f : ℕ → Float) → length (body_lines i f) ≡ 7
unfolding body_lines
body-many i f = refl

-- what is asked of a joint's words
pub record Fine (m : Model) (nb j : ℕ) : Type 0 where
  pub first : (eqb (get_or m.words (j * words_width + body1_place) 0) world || ltb (get_or m.words (j * words_width + body1_place) 0) nb) ≡ true
  pub second : (eqb (get_or m.words (j * words_width + body2_place) 0) world || ltb (get_or m.words (j * words_width + body2_place) 0) nb) ≡ true
  pub mask2 : get_or m.words (j * words_width + masks_place) 0 ≤ 7
  pub mask3 : get_or m.words (j * words_width + (masks_place + 1)) 0 ≤ 7
  pub mask4 : get_or m.words (j * words_width + (masks_place + 2)) 0 ≤ 7
  pub mask5 : get_or m.words (j * words_width + (masks_place + 3)) 0 ≤ 7

-- so its bodies and masks are short words
pub record Small (m : Model) (j : ℕ) : Type 0 where
  pub small0 : get_or m.words (j * words_width + body1_place) 0 < 10000000000
  pub small1 : get_or m.words (j * words_width + body2_place) 0 < 10000000000
  pub small2 : get_or m.words (j * words_width + masks_place) 0 < 10000000000
  pub small3 : get_or m.words (j * words_width + (masks_place + 1)) 0 < 10000000000
  pub small4 : get_or m.words (j * words_width + (masks_place + 2)) 0 < 10000000000
  pub small5 : get_or m.words (j * words_width + (masks_place + 3)) 0 < 10000000000

pub fine-small : (m : Model) (nb j : ℕ) → nb ≤ most_bodies → Fine m nb j → Small m j
fine-small m nb j l h =
    record {
      small0 = end-small (get_or m.words (j * words_width + body1_place) 0) h.first;
      small1 = end-small (get_or m.words (j * words_width + body2_place) 0) h.second;
      small2 = omega (arith, h.mask2);
      small3 = omega (arith, h.mask3);
      small4 = omega (arith, h.mask4);
      small5 = omega (arith, h.mask5);
    }
  where
    end-small : (i : ℕ) → (eqb i world || ltb i nb) ≡ true → i < 10000000000
    end-small i p = go (eqb i world) refl p
      where
        go : (t : Bool) → eqb i world ≡ t → (t || ltb i nb) ≡ true → i < 10000000000
        go true e q = omega (arith, eqb-true i world e)
        go false e q = omega (arith, ltb-true i nb q)

module _ (m : Model) where
  settings-short : short_lines (settings_lines m.params) ≡ true
  unfolding settings_lines
  settings-short = simp number_short

  bodies-short : (n i : ℕ) → i + n ≤ most_bodies → (short_lines (bodies_from m.bodies i n) ≡ true) × (length (bodies_from m.bodies i n) ≡ 7 * n)
  unfolding items_from
  bodies-short zero i h = (refl, omega arith)
  bodies-short (suc n) i h =
      let r = bodies-short n (i + 1) (omega arith) in (
        short-append (body_lines i (num body_width m.bodies i)) (bodies_from m.bodies (i + 1) n) (body-lines i (num body_width m.bodies i) (omega arith)) r.0,
        length-append (body_lines i (num body_width m.bodies i)) (bodies_from m.bodies (i + 1) n) ∙ omega (arith, r.1, body-many i (num body_width m.bodies i)),
      )

  joint-short-lines : (j : ℕ) (f : ℕ → Float) → j < 10000000000 → Small m j → short_lines (joint_lines j (word words_width m.words j) f) ≡ true
  unfolding joint_lines
  joint-short-lines j f l h =
      let c = center-short (get_or m.words (j * words_width + center_choice_place) 0) (f center_place) (f (center_place + 1)) in
      simp (joint-word j l, end-word (get_or m.words (j * words_width + body1_place) 0) h.small0, end-word (get_or m.words (j * words_width + body2_place) 0) h.small1, decimal-word (get_or m.words (j * words_width + masks_place) 0) h.small2, decimal-word (get_or m.words (j * words_width + (masks_place + 1)) 0) h.small3, decimal-word (get_or m.words (j * words_width + (masks_place + 2)) 0) h.small4, decimal-word (get_or m.words (j * words_width + (masks_place + 3)) 0) h.small5, model-word, enabled-word, number_short, c.0, c.1)

  joint-many : (j : ℕ) (g : ℕ → ℕ) (f : ℕ → Float) → length (joint_lines j g f) ≡ 43
  unfolding joint_lines
  joint-many j g f = refl

  joints-short : (n j : ℕ) → j + n ≤ most_bodies → ((k : ℕ) → k < j + n → Small m k)
      → (short_lines (joints_from m.words m.numbers j n) ≡ true) × (length (joints_from m.words m.numbers j n) ≡ 43 * n)
  unfolding items_from
  joints-short zero j h f = (refl, omega arith)
  joints-short (suc n) j h f =
      let r = joints-short n (j + 1) (omega arith) (λ k l. f k (omega arith)) in
      let ls = joint_lines j (word words_width m.words j) (num numbers_width m.numbers j) in (
        short-append ls (joints_from m.words m.numbers (j + 1) n) (joint-short-lines j (num numbers_width m.numbers j) (omega arith) (f j (omega arith))) r.0,
        length-append ls (joints_from m.words m.numbers (j + 1) n) ∙ omega (arith, r.1, joint-many j (word words_width m.words j) (num numbers_width m.numbers j)),
      )

-- the whole text
pub study-size : (m : Model) → body_count plane m.bodies ≤ most_bodies → joint_count plane m.words m.numbers ≤ most_joints
    → ((k : ℕ) → k < joint_count plane m.words m.numbers → Small m k)
    → (length (study_text m) < 4294967295) × (length (study_lines m) ≤ length (study_text m))
unfolding study_text study_lines settings_lines
study-size m fb fj h =
    let nb = body_count plane m.bodies in
    let nj = joint_count plane m.words m.numbers in
    let b = bodies-short m nb 0 (omega arith) in
    let c = joints-short m nj 0 (omega arith) (λ k l. h k (omega arith)) in
    let bs = bodies_from m.bodies 0 nb in
    let cs = joints_from m.words m.numbers 0 nj in
    let s = lines-length (settings_lines m.params ++ (bs ++ cs)) (short-append (settings_lines m.params) (bs ++ cs) (settings-short m) (short-append bs cs b.0 c.0)) in
    (omega (arith, s.0, length-append bs cs, b.1, c.1), s.1)
