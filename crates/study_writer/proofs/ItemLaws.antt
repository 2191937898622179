-- The lines of the settings, of a body and of a joint are read, one after the other.
use mathlib.Core.Path.{◌≡◌, refl, sym, ap, ◌∙◌}
use mathlib.Core.Bool.{Bool, true, false, cond, ◌||◌}
use mathlib.Core.List.{List, [], ◌∷◌, ◌++◌}
use Prim.Native.Nat.{ℕ, zero, suc, ◌+◌, ◌*◌, ◌-◌, ◌/◌, ◌%◌, ◌≤◌, ◌<◌}
use native.Mathlib.Omega.{arith}
use lib.Dec.{eqb, ltb}
use lib.Ieee.{Float}
use lib.ListN.{length, get_or}
use Rattle.texts.specs.Digits.{decimal}
use Rattle.texts.specs.Ascii.{ascii}
use Rattle.model.specs.Layout.{body_width, words_width, body1_place, body2_place, masks_place, models_place, enabled_place, center_choice_place, first_row_place, numbers_width, center_place}
use Rattle.model.specs.Records.{num, word}
use Rattle.model.specs.Store.{world}
use Rattle.multibody.specs.Model.{Model, most_bodies, most_joints}
use Rattle.study_reader.specs.Words.{next_word, same_bytes}
use Rattle.study_reader.specs.Numbers.{number_fault, value_of}
use Rattle.study_reader.specs.Keywords.{meaning, axis_words, no_item, settings_item, body_item, joint_item, calls_item, lock_keyword, motor_model_keyword, enabled_keyword, center_keyword, center_angle_keyword}
use Rattle.study_reader.specs.Storage.{settings_width, joints_place, words_base}
use Rattle.study_reader.specs.Draft.{Draft, item_base}
use Rattle.study_reader.specs.Items.{given1, by_pair, by_angle, or_fault, whole, given_by, given_line, word_line}
use Rattle.study_reader.specs.Study.{line_read}
use Rattle.study_writer.specs.Text.{Line, lines_text, number_word, one, two, settings_lines, body_word, body_lines, joint_word, end_word, model_word, enabled_word, center_line, joint_head, joint_lines}
use Rattle.study_writer.specs.ReadBack.{IsF32, AllF32}
use Rattle.study_writer.proofs.Lexical.{proper, proper_line, first_word, further-word, no_word}
use Rattle.study_writer.proofs.Spelling.{number-proper, number_read, decimal-proper, body-proper, joint-proper}
use Rattle.study_writer.proofs.NumberLines.{Keyword, keyword, keyword-line}
use Rattle.study_writer.proofs.WordLines.{Worded, mask-line, model-line, enabled-line, settings-line}
use Rattle.study_writer.proofs.NameLines.{end-proper, body-line, joint-line}
use Rattle.study_writer.proofs.Agrees.{model_number, body-number, joint-number, canonical, model_word_at, word_at, one-stored}
use Rattle.study_writer.proofs.Reading.{Reading, here, kind-is, bodies-is, joints-is, body-base, joint-base, words-base, word-step, center-step, settings-step, body-step, joint-step, pass-over}
use Rattle.study_writer.proofs.Fields.{read_all, numbers-given, table_lines, table-read, settings_table, body_table, joint_table, settings-known, body-known, joint-known}

-- ---- settings

module _ (text : List ℕ) (m : Model) (f32 : AllF32 m) where
  setting-f32 : (c : ℕ) → c < settings_width → IsF32 (model_number m c)
  unfolding model_number
  setting-f32 zero h = f32.dt
  setting-f32 (suc zero) h = f32.length-unit
  setting-f32 (suc (suc zero)) h = f32.max_velocity
  setting-f32 (suc (suc (suc c))) h = absurd (let z : ⊥ = omega arith in z)

  settings-lines : settings_lines m.params ≡ (ascii "settings" ∷ []) ∷ table_lines (model_number m) 0 settings_table
  unfolding settings_lines model_number
  settings-lines = refl

  pub settings-read : {ls : List Line} {d : Draft} → Reading text m no_item 0 0 0 0 0 (settings_lines m.params ++ ls) d
      → Reading text m settings_item 0 0 0 settings_width 0 ls (read_all text (settings_lines m.params) d)
  unfolding read_all item_base meaning same_bytes
  settings-read {ls} {d} o =
      let r = rw settings-lines at o in
      let e = settings-line text d.names d.state (ascii "settings") (lines_text (table_lines (model_number m) 0 settings_table ++ ls)) (here r) refl refl refl (ap (λ (k : ℕ). eqb k calls_item) (kind-is r)) in
      rw settings-lines
      (table-read text m settings_item 0 0 0 0 0 settings_width (model_number m) refl refl (λ st at s. ap item_base s) setting-f32 (λ c h. let z : c ≡ 0 + c = omega arith in ap (model_number m) z)
      (omega arith) settings_table 0 (omega arith) settings-known (settings-step r refl e))

-- ---- bodies

module _ (text : List ℕ) (small : length text < 4294967295) (m : Model) (f32 : AllF32 m) (i : ℕ) (few : i < most_bodies) where
  body-lines : (f : ℕ → Float) → body_lines i f ≡ (ascii "body" ∷ body_word i ∷ []) ∷ table_lines f 0 body_table
  unfolding body_lines
  body-lines f = refl

  pub body-read : {kind item : ℕ} {ls : List Line} {d : Draft} → eqb kind calls_item ≡ false
      → Reading text m kind item i 0 (settings_width + body_width * i) 0 (body_lines i (num body_width m.bodies i) ++ ls) d
      → Reading text m body_item i (i + 1) 0 (settings_width + body_width * (i + 1)) 0 ls (read_all text (body_lines i (num body_width m.bodies i)) d)
  unfolding read_all meaning same_bytes
  body-read {kind} {item} {ls} {d} c o =
      let f = num body_width m.bodies i in
      let base = settings_width + body_width * i in
      let r = rw (body-lines f) at o in
      let g = body-line text d.names d.state (ascii "body") (lines_text (table_lines f 0 body_table ++ ls)) i (here r) refl refl refl (ap (λ (k : ℕ). eqb k calls_item) (kind-is r) ∙ c) (bodies-is r) (joints-is r)
      few r.agrees.body-names in
      let first : base + 0 ≡ base = omega arith in
      let last : settings_width + body_width * (i + 1) ≡ base + body_width = omega arith in
      rw (body-lines f, last)
      (table-read text m body_item i (i + 1) 0 0 base body_width f refl refl (λ st at s. body-base st s (omega arith)) (λ k h. f32.bodies (i * body_width + k))
      (λ k h. let e : base + k ≡ settings_width + (i * body_width + k) = omega arith in sym (ap (model_number m) e ∙ body-number m (i * body_width + k) (omega arith))) (omega arith) body_table 0 (omega arith)
      body-known (rw first (body-step r (simp (body-proper i)) g.0 g.2 small g.1 (omega arith) refl (omega arith))))

-- ---- joints

module _ (text : List ℕ) (small : length text < 4294967295) (m : Model) (f32 : AllF32 m) (nb : ℕ) (fb : nb ≤ most_bodies) (j : ℕ) (few : j < most_joints) where
  abbrev base : ℕ
  base = joints_place + numbers_width * j

  -- joint j is open, with the numbers below a place and so many of its words
  abbrev Joint : ℕ → ℕ → List Line → Draft → Type 0
  Joint top k ls d = Reading text m joint_item j nb (j + 1) top (j * words_width + k) ls d

  abbrev f : ℕ → Float
  f = num numbers_width m.numbers j

  abbrev g : ℕ → ℕ
  g k = get_or m.words (j * words_width + k) 0

  word-place : (k : ℕ) → words_base j + k ≡ j * words_width + k
  word-place k = ap (λ (n : ℕ). n + k) (words-base j (omega arith)) ∙ omega arith

  f-same : (k : ℕ) → k < numbers_width → f k ≡ model_number m (base + k)
  f-same k h = let e : base + k ≡ joints_place + (j * numbers_width + k) = omega arith in sym (ap (model_number m) e ∙ joint-number m (j * numbers_width + k))

  -- ---- words

  joint-word : (k v : ℕ) {l : Line} {ls : List Line} {d : Draft} → Joint base k (l ∷ ls) d → proper_line l ≡ true → k < words_width → Worded text d.names d.state k v → v ≡ canonical k (g k)
      → Joint base (k + 1) ls (line_read text d)
  joint-word k v o p r h e =
      let s : j * words_width + (k + 1) ≡ j * words_width + k + 1 = omega arith in
      rw s (word-step o p k v h.0 h.1 (word-place k) (e ∙ sym (word_at m j k r)) (omega arith) (omega arith))

  joint-mask : (c : ℕ) {kw : List ℕ} {ls : List Line} {d : Draft} → Keyword kw (lock_keyword + c) → Joint base (masks_place + c) ((kw ∷ decimal (g (masks_place + c)) ∷ []) ∷ ls) d → c < 4
      → g (masks_place + c) ≤ 7 → g (masks_place + c) ≡ canonical (masks_place + c) (g (masks_place + c)) → Joint base (masks_place + c + 1) ls (line_read text d)
  joint-mask c {kw} {ls} {d} w o r u e =
      let h = mask-line text d.names d.state kw (lines_text ls) (lock_keyword + c) (g (masks_place + c)) (here o) w (omega arith) (omega arith) (kind-is o) (omega arith) in
      let q : masks_place + (lock_keyword + c - lock_keyword) ≡ masks_place + c = omega arith in
      joint-word (masks_place + c) (g (masks_place + c)) o (simp (w.is-proper, decimal-proper)) (omega arith) (rw q at h) e

  model-proper : (v : ℕ) → proper (model_word v) ≡ true
  unfolding model_word
  model-proper v = go (eqb v 0)
    where
      go : (t : Bool) → proper (cond t (ascii "acceleration") (ascii "force")) ≡ true
      go true = refl
      go false = refl

  joint-model : (a : ℕ) (aw : List ℕ) → proper aw ≡ true → meaning axis_words 3 aw ≡ a → a < 3 → {kw : List ℕ} {ls : List Line} {d : Draft} → Keyword kw motor_model_keyword
      → Joint base (models_place + a) ((kw ∷ aw ∷ model_word (g (models_place + a)) ∷ []) ∷ ls) d → cond (eqb (g (models_place + a)) 0) 0 1 ≡ canonical (models_place + a) (g (models_place + a))
      → Joint base (models_place + a + 1) ls (line_read text d)
  joint-model a aw pa am r {kw} {ls} {d} w o e =
      joint-word (models_place + a) (cond (eqb (g (models_place + a)) 0) 0 1) o (simp (w.is-proper, pa, model-proper)) (omega arith)
      (model-line text d.names d.state kw (lines_text ls) a aw pa am r (g (models_place + a)) (here o) w (kind-is o)) e

  joint-kind : (c : ℕ) {kw : List ℕ} {ls : List Line} {d : Draft} → Keyword kw (enabled_keyword + c) → Joint base enabled_place ((kw ∷ []) ∷ ls) d → c < 3 → c ≡ canonical enabled_place (g enabled_place)
      → Joint base center_choice_place ls (line_read text d)
  joint-kind c {kw} {ls} {d} w o r e =
      let h = enabled-line text d.names d.state kw (lines_text ls) (enabled_keyword + c) (here o) w (omega arith) (omega arith) (kind-is o) in
      let q : enabled_keyword + c - enabled_keyword ≡ c = omega arith in
      joint-word enabled_place c o (simp w.is-proper) (omega arith) (rw q at h) e

  joint-enabled : {ls : List Line} {d : Draft} (s t : Bool) → eqb (g enabled_place) 0 ≡ s → eqb (g enabled_place) 1 ≡ t
      → Joint base enabled_place ((cond s (ascii "enabled") (cond t (ascii "disabled_by_attached_body") (ascii "disabled")) ∷ []) ∷ ls) d → Joint base center_choice_place ls (line_read text d)
  unfolding canonical meaning same_bytes
  joint-enabled true t e f o = joint-kind 0 (keyword refl) o (omega arith) (simp e)
  joint-enabled false true e f o = joint-kind 1 (keyword refl) o (omega arith) (simp (e, f))
  joint-enabled false false e f o = joint-kind 2 (keyword refl) o (omega arith) (simp (e, f))

  joint-open : {kind item : ℕ} {ls : List Line} {d : Draft} → eqb kind calls_item ≡ false → (eqb (g body1_place) world || ltb (g body1_place) nb) ≡ true → (eqb (g body2_place) world || ltb (g body2_place) nb) ≡ true
      → Reading text m kind item nb j base (j * words_width) ((ascii "joint" ∷ joint_word j ∷ end_word (g body1_place) ∷ end_word (g body2_place) ∷ []) ∷ ls) d → Joint base masks_place ls (line_read text d)
  unfolding canonical meaning same_bytes
  joint-open {kind} {item} {ls} {d} c p1 p2 o =
      let h = joint-line text d.names d.state (ascii "joint") (lines_text ls) j nb (g body1_place) (g body2_place) (here o) refl refl refl (ap (λ (k : ℕ). eqb k calls_item) (kind-is o) ∙ c) (bodies-is o) (joints-is o)
      few fb o.agrees.body-names o.agrees.joint-names p1 p2 in
      let s1 : j * words_width + body1_place ≡ j * words_width = omega arith in
      let s2 : j * words_width + masks_place ≡ j * words_width + 1 + 1 = omega arith in
      rw s2
      (joint-step o (simp (joint-proper, end-proper)) h.0 (g body1_place) (g body2_place) h.1 h.2 h.4 small h.3 (omega arith) (omega arith) (omega arith) (omega arith)
      (sym (word_at m j body1_place (omega arith)) ∙ ap (model_word_at m) s1) (sym (word_at m j body2_place (omega arith))))

  -- ---- the centre, and so all of the joint

  abbrev Whole : List Line → Draft → Type 0
  Whole ls d = Reading text m joint_item j nb (j + 1) (joints_place + numbers_width * (j + 1)) ((j + 1) * words_width) ls d

  -- the first row is not in the text
  no_row : (c : ℕ) → j * words_width + center_choice_place + 1 ≤ c → c < (j + 1) * words_width → (c % words_width ≡ first_row_place → ⊥) → ⊥
  no_row c l u t = t (omega arith)

  center-word : (t : Bool) → eqb (g center_choice_place) 0 ≡ t → cond t 0 1 ≡ canonical center_choice_place (g center_choice_place)
  unfolding canonical
  center-word t e = rw e refl

  joint-center : {ls : List Line} {d : Draft} (t : Bool) → eqb (g center_choice_place) 0 ≡ t
      → Joint (base + center_place) center_choice_place (cond t (two "center" (f center_place) (f (center_place + 1))) (one "center_angle" (f center_place)) ∷ ls) d → Whole ls (line_read text d)
  unfolding word_line given_line given_by whole or_fault number_fault value_of meaning same_bytes
  joint-center {ls} {d} true t o =
      let kw : Keyword (ascii "center") center_keyword = keyword refl in
      let s = first_word text d.state.at (ascii "center") (number_word (f center_place) ∷ number_word (f (center_place + 1)) ∷ []) (lines_text ls) (here o) refl in
      let n = numbers-given text (next_word text d.state.at).end (lines_text ls) f center_place numbers_width base by_pair (λ k h. f32.numbers (j * numbers_width + k)) true (omega (arith, s.some)) (omega arith) s.after in
      pass-over
      (center-step o (simp number-proper) n.0
      (keyword-line text d.names d.state (ascii "center") (number_word (f center_place) ∷ number_word (f (center_place + 1)) ∷ []) (lines_text ls) (here o) center_keyword kw (omega arith) (omega arith) (kind-is o) ∙ n.1)
      (ap (λ (c : ℕ). ltb c 2) n.2) (word-place center_choice_place) (n.2 ∙ center-word true t ∙ sym (word_at m j center_choice_place (omega arith))) (omega arith)
      (n.3 m d.state d.numbers d.origins (joint-base d.state o.state (omega arith)) f-same (omega arith) o.agrees.numbers)) (joints_place + numbers_width * (j + 1)) ((j + 1) * words_width)
      (λ p l u q. omega arith) no_row
  joint-center {ls} {d} false t o =
      let kw : Keyword (ascii "center_angle") center_angle_keyword = keyword refl in
      let ws = number_word (f center_place) ∷ [] in
      let x32 = f32.numbers (j * numbers_width + center_place) in
      let s = first_word text d.state.at (ascii "center_angle") ws (lines_text ls) (here o) refl in
      let at = (next_word text d.state.at).end in
      let v = further-word text at (number_word (f center_place)) [] (lines_text ls) s.after (number-proper (f center_place)) in
      pass-over
      (center-step o (simp number-proper) (given1 center_place (f center_place) (next_word text at).start by_angle)
      (keyword-line text d.names d.state (ascii "center_angle") ws (lines_text ls) (here o) center_angle_keyword kw (omega arith) (omega arith) (kind-is o)
      ∙ simp (number_read text (next_word text at) (f center_place) x32 v.bytes, no_word text (next_word text at).end (lines_text ls) v.after))
      refl (word-place center_choice_place) (center-word false t ∙ sym (word_at m j center_choice_place (omega arith))) (omega arith)
      (one-stored o.agrees.numbers d.state center_place (ap (λ (n : ℕ). n + center_place) (joint-base d.state o.state (omega arith))) (f center_place) (f-same center_place (omega arith)) (next_word text at).start
      (omega (arith, s.some, v.later)) by_angle (omega arith))) (joints_place + numbers_width * (j + 1)) ((j + 1) * words_width) (λ p l u q. beside p l u (q.joint (omega arith))) no_row
    where
      -- the number beside an angle does not matter
      beside : (p : ℕ) → base + center_place + 1 ≤ p → p < joints_place + numbers_width * (j + 1)
          → ((p - joints_place) % numbers_width ≡ center_place + 1 → eqb (get_or m.words ((p - joints_place) / numbers_width * words_width + center_choice_place) 0) 0 ≡ true) → ⊥
      beside p l u q =
          let e : (p - joints_place) / numbers_width ≡ j = omega arith in
          let y = q (omega arith) in
          let z : eqb (g center_choice_place) 0 ≡ true = rw e at y in
          let w : ◌≡◌ {A = ℕ} 0 1 = cc in
          omega arith

  -- ---- all lines of a joint

  joint-lines : joint_lines j g f ≡ joint_head j g ++ (table_lines f 0 joint_table ++ (center_line (g center_choice_place) (f center_place) (f (center_place + 1)) ∷ []))
  unfolding joint_lines
  joint-lines = refl

  head_read : {kind item : ℕ} {ls : List Line} {d : Draft} → eqb kind calls_item ≡ false → (eqb (g body1_place) world || ltb (g body1_place) nb) ≡ true → (eqb (g body2_place) world || ltb (g body2_place) nb) ≡ true
      → g masks_place ≤ 7 → g (masks_place + 1) ≤ 7 → g (masks_place + 2) ≤ 7 → g (masks_place + 3) ≤ 7
      → Reading text m kind item nb j base (j * words_width) (joint_head j g ++ ls) d → Joint base center_choice_place ls (read_all text (joint_head j g) d)
  unfolding read_all canonical enabled_word meaning same_bytes
  head_read c p1 p2 u2 u3 u4 u5 o =
      let o0 = joint-open c p1 p2 o in
      let o1 = joint-mask 0 (keyword refl) o0 (omega arith) u2 refl in
      let o2 = joint-mask 1 (keyword refl) o1 (omega arith) u3 refl in
      let o3 = joint-mask 2 (keyword refl) o2 (omega arith) u4 refl in
      let o4 = joint-mask 3 (keyword refl) o3 (omega arith) u5 refl in
      let o5 = joint-model 0 (ascii "x") refl refl (omega arith) (keyword refl) o4 refl in
      let o6 = joint-model 1 (ascii "y") refl refl (omega arith) (keyword refl) o5 refl in
      let o7 = joint-model 2 (ascii "angle") refl refl (omega arith) (keyword refl) o6 refl in
      joint-enabled (eqb (g enabled_place) 0) (eqb (g enabled_place) 1) refl refl o7

  pub joint-read : {kind item : ℕ} {ls : List Line} {d : Draft} → eqb kind calls_item ≡ false → (eqb (g body1_place) world || ltb (g body1_place) nb) ≡ true → (eqb (g body2_place) world || ltb (g body2_place) nb) ≡ true
      → g masks_place ≤ 7 → g (masks_place + 1) ≤ 7 → g (masks_place + 2) ≤ 7 → g (masks_place + 3) ≤ 7
      → Reading text m kind item nb j base (j * words_width) (joint_lines j (word words_width m.words j) f ++ ls) d → Whole ls (read_all text (joint_lines j (word words_width m.words j) f) d)
  unfolding read_all center_line
  joint-read {kind} {item} {ls} {d} c p1 p2 u2 u3 u4 u5 o =
      let l = center_line (g center_choice_place) (f center_place) (f (center_place + 1)) in
      let o0 = head_read {ls = table_lines f 0 joint_table ++ (l ∷ ls)} c p1 p2 u2 u3 u4 u5 (rw joint-lines at o) in
      let first : base + 0 ≡ base = omega arith in
      let o1 = table-read text m joint_item j nb (j + 1) (j * words_width + center_choice_place) base numbers_width f refl refl (λ st at s. joint-base st s (omega arith)) (λ k h. f32.numbers (j * numbers_width + k)) f-same (omega arith)
      joint_table 0 (omega arith) joint-known {ls = l ∷ ls} {d = read_all text (joint_head j g) d} (rw first o0) in
      rw joint-lines (joint-center (eqb (g center_choice_place) 0) refl o1)
