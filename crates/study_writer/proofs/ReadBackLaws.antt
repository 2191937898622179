-- Print, then read: `read_back`, the theorem of specs/ReadBack.antt.
use mathlib.Core.Path.{◌≡◌, refl, sym, ap, subst, ◌∙◌}
use mathlib.Core.Bool.{Bool, true, false, cond, not, ◌||◌, ◌&&◌}
use mathlib.Core.List.{List, [], ◌∷◌, ◌++◌, append_assoc, append-nil}
use Prim.Native.Nat.{ℕ, zero, suc, ◌+◌, ◌*◌, ◌-◌, ◌/◌, ◌≤◌, ◌<◌}
use native.Mathlib.Omega.{arith}
use borrow.Author.Tests.{le-leb, leb-false, ltb-false, ne_eqb, lt-ltb, not-true}
use lib.Dec.{leb, ltb, eqb}
use lib.Ieee.{Float, nan}
use lib.ListN.{length, get_or, take, drop, length-append, length-drop, replicate, length-replicate}
use Rattle.floats.specs.Operators.{bits}
use lib.Seq.{get_or-drop, take-append_seam}
use Rattle.texts.specs.Written.{written}
use Rattle.model.specs.Layout.{body_width, words_width, body1_place, body2_place, masks_place, models_place, enabled_place, center_choice_place, first_row_place, numbers_width, center_place}
use Rattle.model.specs.Records.{num, word}
use Rattle.model.specs.Store.{world, joint_at, center_at, body1_at, body2_at}
use Rattle.multibody.specs.Model.{Model, most_bodies, most_joints}
use Rattle.multibody.specs.Counts.{body_count, joint_count}
use Rattle.multibody.specs.Rules.{all}
use Rattle.multibody.specs.Refusals.{present_or_world, bodies_present}
use Rattle.model.specs.Planar.{plane}
use Rattle.model.specs.Refusals.{masks_fit}
use Rattle.study_reader.specs.Storage.{most_items, settings_width, joints_place, numbers_size, words_size, names_size, joint_base}
use Rattle.std.specs.Prelude.{None}
use Rattle.study_reader.specs.Draft.{Draft, draft, with_state, start, puts, settings_defaults}
use Rattle.study_reader.specs.Study.{line_read, lines_read, left_open, ended, is_left_out, center_joint, center_joints, read_study, study_of, settings_read, bodies_read, joints_read}
use Rattle.study_reader.specs.declared.draft.State.{State}
use Rattle.study_reader.specs.Keywords.{no_item, settings_item, body_item, joint_item, calls_item}
use Rattle.study_writer.specs.Text.{Line, items_from, lines_text, settings_lines, body_lines, bodies_from, joint_lines, joints_from, study_lines, study_text}
use Rattle.study_writer.specs.Printed.{printed_text}
use Rattle.study_writer.specs.ReadBack.{AllF32, Accepted, Room, IsRead, ReadsBack, StudyBack, WroteAndRead}
use Rattle.study_reader.proofs.Places.{by_cases}
use Rattle.study_writer.proofs.Lexical.{both}
use Rattle.study_writer.proofs.Agrees.{model_number, body-number, joint-number, Told, canonical, word_at, NumbersAgree, WordsAgree, puts-length}
use Rattle.study_writer.proofs.Reading.{on, Reading, pass-over}
use Rattle.study_writer.proofs.Fields.{read_all, all_append}
use Rattle.study_writer.proofs.ItemLaws.{settings-read, body-read, joint-read}
use Rattle.study_writer.proofs.Sizes.{Fine, fine-small, study-size}
use Rattle.study_writer.proofs.Decoded.{center-same, joint-same}

-- ---- line after line

-- so many lines, and then more
all_lines : (text : List ℕ) (ls : List Line) (n : ℕ) (d : Draft) → lines_read text (length ls + n) d ≡ lines_read text n (read_all text ls d)
unfolding read_all lines_read
all_lines text [] n d = let e : 0 + n ≡ n = omega arith in ap (λ (k : ℕ). lines_read text k d) e
all_lines text (l ∷ ls) n d =
    let e : suc (length ls) + n ≡ suc (length ls + n) = omega arith in
    ap (λ (k : ℕ). lines_read text k d) e ∙ all_lines text ls n (line_read text d)

-- at the end of the text nothing more is read
idle : (text : List ℕ) (d : Draft) → d.state.fault ≡ None → drop d.state.at text ≡ [] → line_read text d ≡ d
unfolding line_read
idle text d f h =
    let a = length-drop d.state.at text in
    let b = ap length h in
    let c : leb (length text) d.state.at ≡ true = le-leb (length text) d.state.at (omega arith) in
    simp (f, c)

at-end : (text : List ℕ) (d : Draft) → d.state.fault ≡ None → drop d.state.at text ≡ [] → (n : ℕ) → lines_read text n d ≡ d
unfolding lines_read
at-end text d f h zero = refl
at-end text d f h (suc n) = ap (lines_read text n) (idle text d f h) ∙ at-end text d f h n

-- ---- item after item

-- between two items: P has how far the reading is, from item to item
module _ (text : List ℕ) (lines : ℕ → List Line) (n : ℕ) (P : ℕ → List Line → Draft → Type 0)
    (step : (i : ℕ) (ls : List Line) (d : Draft) → i < n → P i (lines i ++ ls) d → P (i + 1) ls (read_all text (lines i) d)) where
  items-read : (k i : ℕ) (ls : List Line) (d : Draft) → i + k ≡ n → P i (items_from lines i k ++ ls) d → P n ls (read_all text (items_from lines i k) d)
  unfolding items_from read_all
  items-read zero i ls d e b = let z : i ≡ n = omega arith in rw z at b
  items-read (suc k) i ls d e b =
      rw (all_append text (lines i) (items_from lines (i + 1) k) d)
      (items-read k (i + 1) ls (read_all text (lines i) d) (omega arith) (step i (items_from lines (i + 1) k ++ ls) d (omega arith) (rw append_assoc at b)))

record Between (text : List ℕ) (m : Model) (nb nj top done : ℕ) (ls : List Line) (d : Draft) : Type 0 where
  kind : ℕ
  item : ℕ
  no_call : eqb kind calls_item ≡ false
  reading : Reading text m kind item nb nj top done ls d

-- ---- the centres are given, so none is left out

module _ (m : Model) (nj : ℕ) (d : Draft) (given : (j : ℕ) → j < nj → 0 < get_or d.origins (joints_place + (j * numbers_width + center_place)) 0) (few : nj ≤ most_joints) where
  no-center : (j : ℕ) → j < nj → center_joint j d ≡ d
  unfolding center_joint is_left_out joint_base
  no-center j l =
      let e : joints_place + numbers_width * j + center_place ≡ joints_place + (j * numbers_width + center_place) = omega arith in
      let g = given j l in
      simp (lt-ltb j most_items (omega arith), e, ne_eqb (get_or d.origins (joints_place + (j * numbers_width + center_place)) 0) 0 (λ q. omega arith))

  no-centers : (n j : ℕ) → j + n ≤ nj → center_joints j n d ≡ d
  unfolding center_joints
  no-centers zero j l = refl
  no-centers (suc n) j l = ap (center_joints (j + 1) n) (no-center j (omega arith)) ∙ no-centers n (j + 1) (omega arith)

-- ---- what rules 3 and 4 say of a joint's words

fine : (m : Model) (j : ℕ) → masks_fit m.words j ≡ true → bodies_present plane m.bodies m.words j ≡ true → Fine m (body_count plane m.bodies) j
unfolding masks_fit all bodies_present present_or_world body1_at body2_at
fine m j h p =
    let w : ℕ → ℕ = word words_width m.words j in
    let a = both (not (ltb 7 (w masks_place))) (not (ltb 7 (w (masks_place + 1))) && (not (ltb 7 (w (masks_place + 2))) && (not (ltb 7 (w (masks_place + 3))) && true))) h in
    let b = both (not (ltb 7 (w (masks_place + 1)))) (not (ltb 7 (w (masks_place + 2))) && (not (ltb 7 (w (masks_place + 3))) && true)) a.1 in
    let c = both (not (ltb 7 (w (masks_place + 2)))) (not (ltb 7 (w (masks_place + 3))) && true) b.1 in
    let d = both (not (ltb 7 (w (masks_place + 3)))) true c.1 in
    let e = both (eqb (w body1_place) world || ltb (w body1_place) (body_count plane m.bodies)) (eqb (w body2_place) world || ltb (w body2_place) (body_count plane m.bodies)) p in
    record {
      first = e.0;
      second = e.1;
      mask2 = ltb-false 7 (w masks_place) (not-true (ltb 7 (w masks_place)) a.0);
      mask3 = ltb-false 7 (w (masks_place + 1)) (not-true (ltb 7 (w (masks_place + 1))) b.0);
      mask4 = ltb-false 7 (w (masks_place + 2)) (not-true (ltb 7 (w (masks_place + 2))) c.0);
      mask5 = ltb-false 7 (w (masks_place + 3)) (not-true (ltb 7 (w (masks_place + 3))) d.0);
    }

-- ---- the storage holds the model

module _ (m : Model) (nj : ℕ) (d : Draft) (few : nj ≤ most_joints) (fb : body_count plane m.bodies ≤ most_bodies) (n : NumbersAgree m (joints_place + numbers_width * nj) d.numbers d.origins) (w : WordsAgree m (nj * words_width) d.words) where
  setting-told : (c : ℕ) → c < settings_width → Told m c
  setting-told c h = record { body = λ u. omega arith; joint = λ u. absurd (let z : ⊥ = omega arith in z) }

  settings-held : settings_read d ≡ m.params
  unfolding model_number
  settings-held =
      simp (n.values.has 0 (omega arith) (setting-told 0 (omega arith)), n.values.has 1 (omega arith) (setting-told 1 (omega arith)), n.values.has 2 (omega arith) (setting-told 2 (omega arith)))

  body-held : (i c : ℕ) → i < body_count plane m.bodies → c < body_width → num body_width (bodies_read d) i c ≡ num body_width m.bodies i c
  body-held i c l r =
      get_or-drop settings_width d.numbers (i * body_width + c) nan
      ∙ n.values.has (settings_width + (i * body_width + c)) (omega arith) (record { body = λ u. omega arith; joint = λ u. absurd (let z : ⊥ = omega arith in z) })
      ∙ body-number m (i * body_width + c) (omega arith)

  module _ (j : ℕ) (l : j < nj) where
    told : (c : ℕ) → c < center_place + 1 → Told m (joints_place + (j * numbers_width + c))
    told c r = record { body = λ u. absurd (let z : ⊥ = omega arith in z); joint = λ u q. absurd (let z : ⊥ = omega arith in z) }

    center-given : 0 < get_or d.origins (joints_place + (j * numbers_width + center_place)) 0
    center-given = n.given.has (joints_place + (j * numbers_width + center_place)) (omega arith) (told center_place (omega arith))

    number-held : (c : ℕ) → c < center_place + 1 → num numbers_width (joints_read d) j c ≡ num numbers_width m.numbers j c
    number-held c r =
        get_or-drop joints_place d.numbers (j * numbers_width + c) nan
        ∙ n.values.has (joints_place + (j * numbers_width + c)) (omega arith) (told c r)
        ∙ joint-number m (j * numbers_width + c)

    last-held : eqb (word words_width m.words j center_choice_place) 0 ≡ true → num numbers_width (joints_read d) j (center_place + 1) ≡ num numbers_width m.numbers j (center_place + 1)
    last-held e =
        let p = joints_place + (j * numbers_width + (center_place + 1)) in
        let s : (p - joints_place) / numbers_width ≡ j = omega arith in
        get_or-drop joints_place d.numbers (j * numbers_width + (center_place + 1)) nan
        ∙ n.values.has p (omega arith)
        (record { body = λ u. absurd (let z : ⊥ = omega arith in z); joint = λ u q. ap (λ (i : ℕ). eqb (get_or m.words (i * words_width + center_choice_place) 0) 0) s ∙ e })
        ∙ joint-number m (j * numbers_width + (center_place + 1))

    word_held : (c : ℕ) → c < first_row_place → word words_width d.words j c ≡ canonical c (word words_width m.words j c)
    word_held c r = w.has (j * words_width + c) (omega arith) (λ q. omega arith) ∙ word_at m j c (omega arith)

    joint-held : joint_at d.words (joints_read d) j ≡ joint_at m.words m.numbers j
    unfolding joint_at canonical
    joint-held =
        joint-same (num numbers_width (joints_read d) j) (num numbers_width m.numbers j) (word words_width d.words j) (word words_width m.words j) number-held last-held
        (word_held masks_place (omega arith)) (word_held (masks_place + 1) (omega arith)) (word_held (masks_place + 2) (omega arith)) (word_held (masks_place + 3) (omega arith)) (word_held models_place (omega arith)) (word_held (models_place + 1) (omega arith))
        (word_held (models_place + 2) (omega arith)) (word_held enabled_place (omega arith)) (word_held center_choice_place (omega arith))

    center-held : center_at d.words (joints_read d) j ≡ center_at m.words m.numbers j
    unfolding center_at canonical
    center-held =
        center-same (num numbers_width (joints_read d) j) (num numbers_width m.numbers j) (word words_width d.words j) (word words_width m.words j) number-held last-held
        (word_held masks_place (omega arith)) (word_held (masks_place + 1) (omega arith)) (word_held (masks_place + 2) (omega arith)) (word_held (masks_place + 3) (omega arith)) (word_held models_place (omega arith)) (word_held (models_place + 1) (omega arith))
        (word_held (models_place + 2) (omega arith)) (word_held enabled_place (omega arith)) (word_held center_choice_place (omega arith))

    body1-held : body1_at d.words j ≡ body1_at m.words j
    unfolding body1_at canonical
    body1-held = word_held body1_place (omega arith)

    body2-held : body2_at d.words j ≡ body2_at m.words j
    unfolding body2_at canonical
    body2-held = word_held body2_place (omega arith)

-- ---- from the first line to the last

module _ (m : Model) (f32 : AllF32 m) (p : Accepted m) (numbers : List Float) (origins words names : List ℕ) (r : Room numbers origins words names) where
  abbrev text : List ℕ
  text = study_text m

  abbrev nb : ℕ
  nb = body_count plane m.bodies

  abbrev nj : ℕ
  nj = joint_count plane m.words m.numbers

  abbrev first : Draft
  first = draft start (puts 0 settings_defaults numbers) origins words names

  abbrev last : Draft
  last = read_all text (study_lines m) first

  joint-fine : (k : ℕ) → k < nj → Fine m nb k
  joint-fine k l = fine m k (p.masks k l) (p.present k l)

  sizes : (length (study_text m) < 4294967295) × (length (study_lines m) ≤ length (study_text m))
  sizes = study-size m p.few_bodies p.few_joints (λ k l. fine-small m nb k p.few_bodies (joint-fine k l))

  -- before the first line
  start-reading : (ls : List Line) → text ≡ lines_text ls → Reading text m no_item 0 0 0 0 0 ls first
  start-reading ls e =
      record {
        at = 0;
        state = refl;
        left = e;
        agrees =
            record {
              numbers =
                  record {
                    values = record { room = rw (puts-length 0 settings_defaults numbers) r.numbers_room; has = λ c q. absurd (let z : ⊥ = omega arith in z) };
                    given = record { room = r.origins_room; has = λ c q. absurd (let z : ⊥ = omega arith in z) };
                  };
              words = record { room = r.words_room; has = λ c q. absurd (let z : ⊥ = omega arith in z) };
              names_room = r.names_room;
              body-names = λ c q. absurd (let z : ⊥ = omega arith in z);
              joint-names = λ c q. absurd (let z : ⊥ = omega arith in z);
            };
      }

  abbrev body_part : List Line
  body_part = bodies_from m.bodies 0 nb

  abbrev joint_part : List Line
  joint_part = joints_from m.words m.numbers 0 nj

  abbrev d1 : Draft
  d1 = read_all text (settings_lines m.params) first

  abbrev Bodies : ℕ → List Line → Draft → Type 0
  Bodies i ls d = Between text m i 0 (settings_width + body_width * i) 0 ls d

  abbrev Joints : ℕ → List Line → Draft → Type 0
  Joints j ls d = Between text m nb j (joints_place + numbers_width * j) (j * words_width) ls d

  after-settings : Bodies 0 (body_part ++ (joint_part ++ [])) d1
  unfolding study_text study_lines
  after-settings =
      record {
        kind = settings_item;
        item = 0;
        no_call = refl;
        reading =
            settings-read (study_text m) m f32
            (start-reading (settings_lines m.params ++ (body_part ++ (joint_part ++ []))) (ap (λ (l : List Line). lines_text (settings_lines m.params ++ (body_part ++ l))) (sym (append-nil joint_part))));
      }

  after-bodies : Bodies nb (joint_part ++ []) (read_all text body_part d1)
  after-bodies =
      items-read text (λ i. body_lines i (num body_width m.bodies i)) nb Bodies
      (λ i ls d h b. record { kind = body_item; item = i; no_call = refl; reading = body-read text sizes.0 m f32 i (omega (arith, p.few_bodies)) b.no_call b.reading }) nb 0 (joint_part ++ []) d1 (omega arith)
      after-settings

  -- the text says nothing of bodies that the model does not have
  before-joints : Joints 0 (joint_part ++ []) (read_all text body_part d1)
  before-joints =
      record {
        kind = after-bodies.kind;
        item = after-bodies.item;
        no_call = after-bodies.no_call;
        reading = pass-over after-bodies.reading joints_place 0 (λ q u v t. omega (arith, t.body v)) (λ c u v t. omega arith);
      }

  after-joints : Joints nj [] (read_all text joint_part (read_all text body_part d1))
  after-joints =
      items-read text (λ j. joint_lines j (word words_width m.words j) (num numbers_width m.numbers j)) nj Joints
      (λ j ls d h b. let w = joint-fine j h in
      record { kind = joint_item; item = j; no_call = refl; reading = joint-read text sizes.0 m f32 nb p.few_bodies j (omega (arith, p.few_joints)) b.no_call w.first w.second w.mask2 w.mask3 w.mask4 w.mask5 b.reading })
      nj 0 [] (read_all text body_part d1) (omega arith) before-joints

  last-parts : last ≡ read_all text joint_part (read_all text body_part d1)
  unfolding study_lines
  last-parts = all_append text (settings_lines m.params) (body_part ++ joint_part) first ∙ all_append text body_part joint_part d1

  after-all : Joints nj [] last
  after-all = subst (Joints nj []) (sym last-parts) after-joints

  abbrev state' : State
  state' = last.state

  at-state : state' ≡ on after-all.reading.at after-all.kind after-all.item nb nj
  at-state = after-all.reading.state

  all_read : lines_read text (length text) first ≡ last
  unfolding lines_text
  all_read =
      let n = length text - length (study_lines m) in
      let e : length text ≡ length (study_lines m) + n = omega (arith, sizes.1) in
      ap (λ (c : ℕ). lines_read text c first) e
      ∙ all_lines text (study_lines m) n first
      ∙ at-end text last (ap (λ (s : State). s.fault) at-state) after-all.reading.left n

  -- no `repeat` is open
  no-repeat : ended state' ≡ state'
  unfolding left_open ended
  no-repeat = ap ended at-state ∙ sym at-state

  read_is : read_study text numbers origins words names ≡ last
  unfolding read_study
  read_is =
      let j : state'.joints ≡ nj = ap (λ (s : State). s.joints) at-state in
      ap (λ (d : Draft). center_joints 0 (ended d.state).joints (with_state d (ended d.state))) all_read
      ∙ ap (λ (s : State). center_joints 0 s.joints (with_state last s)) no-repeat
      ∙ no-centers m nj last (center-given m nj last p.few_joints p.few_bodies after-all.reading.agrees.numbers after-all.reading.agrees.words) p.few_joints state'.joints 0 (omega arith)

  last-read : IsRead m last
  last-read =
      let n = after-all.reading.agrees.numbers in
      let w = after-all.reading.agrees.words in
      record {
        no_fault = ap (λ (s : State). s.fault) at-state;
        body-count = ap (λ (s : State). s.bodies) at-state;
        joint-count = ap (λ (s : State). s.joints) at-state;
        settings = settings-held m nj last p.few_joints p.few_bodies n w;
        bodies = body-held m nj last p.few_joints p.few_bodies n w;
        joints = joint-held m nj last p.few_joints p.few_bodies n w;
        centers = center-held m nj last p.few_joints p.few_bodies n w;
        bodies1 = body1-held m nj last p.few_joints p.few_bodies n w;
        bodies2 = body2-held m nj last p.few_joints p.few_bodies n w;
      }

pub read_back : ReadsBack
read_back m f32 p numbers origins words names r =
    subst (IsRead m) (sym (read_is m f32 p numbers origins words names r)) (last-read m f32 p numbers origins words names r)

-- in storage of its full size, with nothing in it before
pub study-back : StudyBack
unfolding study_of
study-back m f32 p =
    read_back m f32 p (replicate numbers_size (bits 0)) (replicate (numbers_size + words_size) 0) (replicate words_size 0) (replicate names_size 0)
    (record {
      numbers_room = rw length-replicate (omega arith);
      origins_room = rw length-replicate (omega arith);
      words_room = rw length-replicate (omega arith);
      names_room = rw length-replicate (omega arith);
    })

-- ---- of the two functions

module _ (m : Model) (f32 : AllF32 m) (numbers : List Float) (origins words names : List ℕ) (d : Draft) (out out' : List ℕ) (r : ℕ) (e : r ≡ length (printed_text m)) (f : out' ≡ written out (printed_text m)) where
  printed : Accepted m → printed_text m ≡ study_text m
  unfolding printed_text
  printed p = simp (le-leb _ _ p.few_bodies, le-leb _ _ p.few_joints)

  -- whether the text fits is seen in what was left
  fits-there : r ≤ length out' → leb (length (printed_text m)) (length out) ≡ true
  unfolding written
  fits-there l =
      by_cases (leb (length (printed_text m)) (length out)) (λ t. t)
      (λ t. absurd (let h = leb-false (length (printed_text m)) (length out) t in let q : length out' ≡ length out = ap length f ∙ rw t refl in let z : ⊥ = omega arith in z))

  not_there : length out' < r → leb (length (printed_text m)) (length out) ≡ false
  unfolding written
  not_there l =
      by_cases (leb (length (printed_text m)) (length out))
      (λ t. absurd (let q : length out' ≡ length (printed_text m) + length (drop (length (printed_text m)) out) = ap length f ∙ rw t (length-append (printed_text m) _) in let z : ⊥ = omega arith in z))
      (λ t. t)

  -- the text stands at the front
  pub wrote-all : r ≤ length out' → d ≡ read_study (take r out') numbers origins words names → WroteAndRead m out out' numbers origins words names d
  unfolding written
  wrote-all l g =
      let fits = fits-there l in
      let h : take r out' ≡ printed_text m = simp (f, e, fits) (take-append_seam (printed_text m) (drop (length (printed_text m)) out)) in
      let k : d ≡ read_study (printed_text m) numbers origins words names = g ∙ ap (λ (t : List ℕ). read_study t numbers origins words names) h in
      record {
        left = f;
        whole = k ∙ sym (ap (λ (t : Bool). read_study (cond t (printed_text m) []) numbers origins words names) fits);
        back = λ p s room. subst (IsRead m) (sym (k ∙ ap (λ (t : List ℕ). read_study t numbers origins words names) (printed p))) (read_back m f32 p numbers origins words names room);
      }

  -- there is none
  pub wrote_none : length out' < r → d ≡ read_study [] numbers origins words names → WroteAndRead m out out' numbers origins words names d
  wrote_none l g =
      let none = not_there l in
      record {
        left = f;
        whole = g ∙ sym (ap (λ (t : Bool). read_study (cond t (printed_text m) []) numbers origins words names) none);
        back = λ p s w. absurd (let h = leb-false (length (printed_text m)) (length out) none in let z : ⊥ = omega arith in z);
      }
