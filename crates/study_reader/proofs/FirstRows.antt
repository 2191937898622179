-- No line gives a joint's first row: `first_rows`, the law of specs/Laws.antt.
use Prim.Native.Nat.{ℕ, zero, suc, ◌+◌, ◌*◌, ◌<◌}
use mathlib.Core.Path.{◌≡◌, refl, ◌∙◌}
use mathlib.Core.Bool.{Bool, true, false, cond}
use mathlib.Core.List.{List}
use native.Mathlib.Omega.{arith}
use Rattle.std.specs.Prelude.{is_some}
use lib.Dec.{ltb, leb}
use lib.ListN.{length, get_or}
use lib.Seq.{get_or-set_other}
use Rattle.model.specs.Layout.{words_width, body1_place, body2_place, center_choice_place, first_row_place}
use Rattle.model.specs.Store.{first_at}
use Rattle.study_reader.specs.Storage.{most_items, words_size, joint_base, words_base}
use Rattle.study_reader.specs.Draft.{Draft, draft, start, with_state, puts, settings_defaults}
use Rattle.study_reader.specs.Items.{by_angle, no_center, line_of}
use Rattle.study_reader.specs.Study.{center_with, word_with, open_body, open_joint, applied, line_read, lines_read, ended, is_left_out, center_joint, center_joints, read_study}
use Rattle.study_reader.specs.Laws.{FirstRows}
use Rattle.study_reader.specs.declared.items.Change.{Change}
use Rattle.study_reader.specs.declared.items.Change.TheVariants.{Nothing, Wrong, Given, JointWord, OpenSettings, OpenBody, OpenJoint, Call}
use Rattle.study_reader.proofs.Places.{by_cases}
use Rattle.study_reader.proofs.StudyLaws.{word_in, Sound, line-sound, Kept, line_kept}

module _ (j : ℕ) (l : j < most_items) where
  -- the place of joint j's first row, and what stands there
  abbrev place : ℕ
  place = j * words_width + first_row_place

  abbrev First : List ℕ → ℕ
  First words = get_or words place 0

  base-cases : (t : Bool) (i k : ℕ) → k < first_row_place → place ≡ cond t (words_width * i) words_size + k → ⊥
  base-cases true i k h e = omega arith
  base-cases false i k h e = omega arith

  -- a word in front of the first row, of any joint, is another
  word_first : (item k value : ℕ) (words : List ℕ) → k < first_row_place → First (word_with item k value words) ≡ First words
  unfolding word_with words_base
  word_first item k value words h = get_or-set_other words (words_base item + k) place value 0 (base-cases (ltb item most_items) item k h)

  center-first : (item center : ℕ) (words : List ℕ) → First (center_with item center words) ≡ First words
  unfolding center_with word_with
  center-first item center words =
      by_cases (ltb center no_center) (λ e. rw e (word_first item center_choice_place center words (omega arith))) (λ e. rw e)

  applied-first : (text : List ℕ) (change : Change) (d : Draft) → Sound text change → First (applied change d).words ≡ First d.words
  unfolding applied open_body open_joint word_in
  applied-first text Nothing d s = refl
  applied-first text (Wrong fault at) d s = refl
  applied-first text (Given n) d s = center-first d.state.item n.center d.words
  applied-first text (JointWord k value at) d s = word_first d.state.item k value d.words s.word
  applied-first text OpenSettings d s = refl
  applied-first text (OpenBody w n) d s = refl
  applied-first text (OpenJoint w n ends) d s =
      word_first d.state.joints body2_place ends.body2 _ (omega arith) ∙ word_first d.state.joints body1_place ends.body1 d.words (omega arith)
  applied-first text (Call keyword at) d s = refl

  draft-first : (t : Bool) (a b : Draft) (x : ℕ) → First a.words ≡ x → First b.words ≡ x → First (cond t a b).words ≡ x
  draft-first true a b x p q = p
  draft-first false a b x p q = q

  line_first : (text : List ℕ) (d : Draft) → Kept text d.state → First (line_read text d).words ≡ First d.words
  unfolding line_read
  line_first text d k =
      draft-first (is_some d.state.fault) d _ _ refl
      (draft-first (leb (length text) d.state.at) d _ _ refl
      (applied-first text (line_of text d.names d.state) d (line-sound text d.names d.state k.at)))

  lines-first : (text : List ℕ) (n : ℕ) (d : Draft) → Kept text d.state → First (lines_read text n d).words ≡ First d.words
  unfolding lines_read
  lines-first text zero d k = refl
  lines-first text (suc n) d k = lines-first text n (line_read text d) (line_kept text d k) ∙ line_first text d k

  center-joint-first : (i : ℕ) (d : Draft) → First (center_joint i d).words ≡ First d.words
  unfolding center_joint word_with
  center-joint-first i d =
      draft-first (is_left_out d.numbers d.origins (joint_base i)) _ d _ (word_first i center_choice_place by_angle d.words (omega arith)) refl

  centers-first : (i n : ℕ) (d : Draft) → First (center_joints i n d).words ≡ First d.words
  unfolding center_joints
  centers-first i zero d = refl
  centers-first i (suc n) d = centers-first (i + 1) n (center_joint i d) ∙ center-joint-first i d

pub first_rows : FirstRows
unfolding read_study first_at
first_rows text numbers origins words names j l =
    let d = draft start (puts 0 settings_defaults numbers) origins words names in
    let last = lines_read text (length text) d in
    let st = ended last.state in
    centers-first j l 0 st.joints (with_state last st)
    ∙ lines-first j l text (length text) d (record { at = omega arith; fault = omega arith; repeat = omega arith; bodies = omega arith; joints = omega arith })
