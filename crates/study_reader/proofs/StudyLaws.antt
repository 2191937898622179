-- The laws of specs/Laws.antt: blank lines, the first fault, the whole text, places inside the text, how many items, defaults, replaced numbers.
use Prim.Native.Nat.{ℕ, zero, suc, ◌+◌, ◌*◌, ◌-◌, ◌≤◌, ◌<◌}
use mathlib.Core.Path.{◌≡◌, refl, sym, ap, ◌∙◌}
use mathlib.Core.Bool.{Bool, true, false, cond}
use mathlib.Core.List.{List, [], ◌∷◌}
use native.Mathlib.Numerals.{add-one}
use native.Mathlib.Omega.{arith}
use borrow.Author.Tests.{lt-leb, eqb-true, eqb-false, ltb-true, ltb-false, leb-true, leb-false}
use lib.Bits.{bit_or}
use lib.Dec.{eqb, ltb, leb}
use lib.Ieee.{Float}
use lib.ListN.{length, set, length-set}
use lib.Seq.{get_or-set_same, get_or-set_other}
use Rattle.texts.specs.Ascii.{ascii}
use Rattle.study_reader.specs.Words.{next_word, is_empty, is_word, whole_of}
use Rattle.study_reader.specs.Faults.{offset_of, fault_unknown, fault_no_body, fault_axis, fault_bodies_full, fault_joints_full, fault_after_calls, fault_model}
use Rattle.model.specs.Layout.{masks_place, models_place, enabled_place, first_row_place, center_place}
use Rattle.study_reader.specs.Storage.{most_items, joint_base}
use Rattle.study_reader.specs.Names.{find_end}
use Rattle.study_reader.specs.Keywords.{axis_of, field_of, no_item, calls_item, item_keyword, call_keyword, lock_keyword, motor_model_keyword, enabled_keyword, center_keyword, settings_keyword, body_keyword, repeat_keyword, end_keyword}
use Rattle.study_reader.specs.Calls.{bit_of, read_call}
use Rattle.study_reader.specs.Draft.{Draft, draft, start, item_base, puts, settings_defaults}
use Rattle.study_reader.specs.Items.{by_pair, no_center, name_fault, kind_fault, kind_of, or_fault, or_fault_there, whole, second_number, numbers_from, given_line, field_numbers, axes_from, named_mask, mask_of, mask_line, model_line, word_line, body_line, between, ends_line, joint_line, field_line, open_line, item_line, call_line, line_of}
use Rattle.study_reader.specs.Study.{second, numbers_with, open_body, open_joint, applied, line_read, lines_read, left_open, ended, is_left_out, center_joint, center_joints, read_study}
use Rattle.study_reader.specs.Laws.{BlankLine, FirstFault, WholeText, AllInside, Defaults, default_at, Replaced}
use Rattle.study_reader.specs.declared.words.Word.{Word}
use Rattle.std.specs.Prelude.{Option, Some, None, is_some}
use Rattle.std.specs.Option.{unwrap_or}
use mathlib.Core.Bool.{false≢true}
use Rattle.study_reader.specs.declared.faults.Fault.{Fault}
use Rattle.study_reader.specs.declared.faults.FaultAt.{FaultAt}
use Rattle.study_reader.specs.declared.draft.State.{State}
use Rattle.study_reader.specs.declared.items.Change.{Change}
use Rattle.study_reader.specs.declared.items.Change.TheVariants.{Nothing, Wrong, Given, JointWord, OpenSettings, OpenBody, OpenJoint, Call}
use Rattle.study_reader.proofs.Places.{by_cases, start-inside, end-inside, next-line-inside, next-line-far, call-within}

-- ---- lines

pub blank-line : BlankLine
unfolding line_read line_of applied
blank-line text d f l e = rw (f, lt-leb _ _ l, e)

told : (o : Option FaultAt) → (o ≡ None → ⊥) → is_some o ≡ true
told (Some f) h = refl
told None h = absurd (h refl)

free : (o : Option FaultAt) → is_some o ≡ false → o ≡ None
free (Some f) e = absurd (false≢true (sym e))
free None e = refl

fault-line : (text : List ℕ) (d : Draft) → (d.state.fault ≡ None → ⊥) → line_read text d ≡ d
unfolding line_read
fault-line text d f = rw (told d.state.fault f)

pub first-fault : FirstFault
unfolding lines_read
first-fault text zero d f = refl
first-fault text (suc n) d f = rw (fault-line text d f) (first-fault text n d f)

-- a line that is read leaves fewer bytes to read than there were
line-far : (text : List ℕ) (n : ℕ) (d : Draft) → d.state.fault ≡ None → length text ≤ d.state.at + suc n → length text ≤ (line_read text d).state.at + n
unfolding line_read
line-far text n d f h =
    rw f
    (by_cases (leb (length text) d.state.at) (λ e. let l = leb-true (length text) d.state.at e in rw e (omega arith))
    (λ e. let l = next-line-far text d.state.at (leb-false _ _ e) in rw e (omega arith)))

all_read : (text : List ℕ) (n : ℕ) (d : Draft) → length text ≤ d.state.at + n → (lines_read text n d).state.fault ≡ None → length text ≤ (lines_read text n d).state.at
unfolding lines_read
all_read text zero d h f = omega arith
all_read text (suc n) d h f =
    by_cases (is_some d.state.fault)
    (λ e.
    let some : d.state.fault ≡ None → ⊥ = λ z. false≢true (sym (ap is_some z) ∙ e) in
    absurd (some (sym (ap (λ (x : Draft). x.state.fault) (first-fault text (suc n) d some)) ∙ f)))
    (λ e. all_read text n (line_read text d) (line-far text n d (free d.state.fault e) h) f)

pub whole-text : WholeText
whole-text text d f = all_read text (length text) d (omega arith) f

-- ---- places in the text, and how many items: first of what one line says

pub place_in : Change → ℕ
place_in Nothing = 0
place_in (Wrong fault at) = at
place_in (Given n) = 0
place_in (JointWord place value at) = 0
place_in OpenSettings = 0
place_in (OpenBody w n) = 0
place_in (OpenJoint w n e) = 0
place_in (Call keyword at) = at

pub many_in : Change → ℕ
many_in Nothing = 0
many_in (Wrong fault at) = 0
many_in (Given n) = 0
many_in (JointWord place value at) = 0
many_in OpenSettings = 0
many_in (OpenBody w n) = n
many_in (OpenJoint w n e) = n
many_in (Call keyword at) = 0

-- the place of a joint's word
unfoldable pub word_in : Change → ℕ
word_in Nothing = 0
word_in (Wrong fault at) = 0
word_in (Given n) = 0
word_in (JointWord place value at) = place
word_in OpenSettings = 0
word_in (OpenBody w n) = 0
word_in (OpenJoint w n e) = 0
word_in (Call keyword at) = 0

pub record Sound (text : List ℕ) (change : Change) : Type 0 where
  pub place : place_in change ≤ length text
  pub many : many_in change ≤ most_items
  pub word : word_in change < first_row_place

module _ (text : List ℕ) where
  wrong-sound : (fault : Fault) (at : ℕ) → at ≤ length text → Sound text (Wrong fault at)
  unfolding place_in many_in word_in
  wrong-sound fault at h = record { place = h; many = omega arith; word = omega arith }

  cond-sound : (t : Bool) (a b : Change) → Sound text a → Sound text b → Sound text (cond t a b)
  cond-sound true a b p q = p
  cond-sound false a b p q = q

  guarded-sound : (t : Bool) (a b : Change) → (t ≡ true → Sound text a) → (t ≡ false → Sound text b) → Sound text (cond t a b)
  guarded-sound true a b p q = p refl
  guarded-sound false a b p q = q refl

  fault-sound : (fault : Option Fault) (at : ℕ) (change : Change) → at ≤ length text → Sound text change → Sound text (or_fault fault at change)
  unfolding or_fault
  fault-sound (Some fault) at change h s = wrong-sound fault at h
  fault-sound None at change h s = s

  fault-there-sound : (fault : Option FaultAt) (change : Change) → offset_of fault ≤ length text → Sound text change → Sound text (or_fault_there fault change)
  unfolding or_fault_there
  fault-there-sound (Some f) change h s = wrong-sound f.fault f.at h
  fault-there-sound None change h s = s

  whole-sound : (at : ℕ) (change : Change) → at ≤ length text → Sound text change → Sound text (whole text at change)
  unfolding whole
  whole-sound at change h s = cond-sound (is_empty (next_word text at)) _ _ s (wrong-sound _ _ (start-inside text at h))

  given-sound : (n : _) → Sound text (Given n)
  unfolding place_in many_in word_in
  given-sound n = record { place = omega arith; many = omega arith; word = omega arith }

  word_sound : (place value at : ℕ) → place < first_row_place → Sound text (JointWord place value at)
  unfolding place_in many_in word_in
  word_sound place value at h = record { place = omega arith; many = omega arith; word = h }

  second-sound : (v : Word) (place : ℕ) (x : Float) (center : ℕ) → v.end ≤ length text → Sound text (second_number text v place x center)
  unfolding second_number
  second-sound v place x center h = fault-sound _ _ _ (start-inside text v.end h) (whole-sound _ _ (end-inside text v.end h) (given-sound _))

  numbers-sound : (at place many center : ℕ) → at ≤ length text → Sound text (numbers_from text at place many center)
  unfolding numbers_from
  numbers-sound at place many center h =
      let e = end-inside text at h in
      fault-sound _ _ _ (start-inside text at h) (cond-sound (ltb 1 many) _ _ (second-sound _ place _ center e) (whole-sound _ _ e (given-sound _)))

  given-line-sound : (at keyword : ℕ) → at ≤ length text → Sound text (given_line text at keyword)
  unfolding given_line
  given-line-sound at keyword h = fault-sound _ _ _ (start-inside text at h) (whole-sound _ _ (end-inside text at h) (given-sound _))

  field-sound : (w : Word) → w.end ≤ length text → Sound text (field_numbers text w)
  unfolding field_numbers
  field-sound w h =
      let v = next_word text w.end in
      let f = field_of text w in
      cond-sound (eqb f.stride 0) _ _ (numbers-sound w.end f.place f.many no_center h)
      (cond-sound (ltb 2 (axis_of text v)) _ _ (wrong-sound fault_axis v.start (start-inside text w.end h))
      (numbers-sound v.end (f.place + axis_of text v * f.stride) f.many no_center (end-inside text w.end h)))

  axes-sound : (place origin n mask at : ℕ) → place < first_row_place → at ≤ length text → Sound text (axes_from text place origin n mask at)
  unfolding axes_from
  axes-sound place origin zero mask at p h = whole-sound _ _ h (word_sound _ _ _ p)
  axes-sound place origin (suc n) mask at p h =
      let w = next_word text at in
      cond-sound (is_empty w) _ _ (word_sound place mask origin p)
      (cond-sound (ltb 2 (axis_of text w)) _ _ (wrong-sound fault_axis w.start (start-inside text at h))
      (axes-sound place origin n (bit_or mask (bit_of (axis_of text w))) w.end p (end-inside text at h)))

  named-sound : (at place : ℕ) (w : Word) → place < first_row_place → at ≤ length text → w.start ≤ length text → Sound text (named_mask text at place w)
  unfolding named_mask
  named-sound at place w p h s = cond-sound (is_empty w) _ _ (wrong-sound _ _ s) (axes-sound place w.start 3 0 at p h)

  mask-sound : (at place : ℕ) (w : Word) (v : Option ℕ) → place < first_row_place → at ≤ length text → w.start ≤ length text → w.end ≤ length text → Sound text (mask_of text at place w v)
  mask-sound at place w (Some mask) p h s e = whole-sound _ _ e (word_sound _ _ _ p)
  mask-sound at place w None p h s e = named-sound at place w p h s

  mask-line-sound : (at place : ℕ) → place < first_row_place → at ≤ length text → Sound text (mask_line text at place)
  unfolding mask_line
  mask-line-sound at place p h = mask-sound at place (next_word text at) (whole_of text (next_word text at)) p h (start-inside text at h) (end-inside text at h)

  model-sound : (at : ℕ) → at ≤ length text → Sound text (model_line text at)
  unfolding model_line
  model-sound at h =
      let v = next_word text at in
      let w = next_word text v.end in
      let e = end-inside text at h in
      let e2 = end-inside text v.end e in
      guarded-sound (ltb 2 (axis_of text v)) _ _ (λ t. wrong-sound fault_axis v.start (start-inside text at h)) (λ t.
      let p : models_place + axis_of text v < first_row_place = omega (arith, ltb-false 2 (axis_of text v) t) in
      cond-sound (is_word text w (ascii "acceleration")) _ _ (whole-sound w.end _ e2 (word_sound (models_place + axis_of text v) 0 w.start p))
      (cond-sound (is_word text w (ascii "force")) _ _ (whole-sound w.end _ e2 (word_sound (models_place + axis_of text v) 1 w.start p))
      (wrong-sound fault_model w.start (start-inside text v.end e))))

  word-line-sound : (keyword : ℕ) (w : Word) → w.end ≤ length text → Sound text (word_line text keyword w)
  unfolding word_line
  word-line-sound keyword w h =
      cond-sound (ltb keyword lock_keyword) _ _ (given-line-sound w.end keyword h)
      (guarded-sound (ltb keyword motor_model_keyword) _ _
      (λ t. mask-line-sound w.end (masks_place + (keyword - lock_keyword)) (omega (arith, ltb-true keyword motor_model_keyword t)) h)
      (λ t.
      cond-sound (eqb keyword motor_model_keyword) _ _ (model-sound w.end h)
      (cond-sound (eqb keyword center_keyword) _ _ (numbers-sound w.end center_place 2 by_pair h)
      (whole-sound w.end _ h (word_sound enabled_place (keyword - enabled_keyword) w.start (omega arith))))))

  -- one more than a number below the most is at most the most
  counted-sound : (n : ℕ) (some : Change) (at : ℕ) (fault : Fault) → at ≤ length text → (n < most_items → Sound text some) → Sound text (cond (ltb n most_items) some (Wrong fault at))
  counted-sound n some at fault h s = by_cases (ltb n most_items) (λ e. rw e (s (ltb-true n most_items e))) (λ e. rw e (wrong-sound _ _ h))

  body-sound : (w : Word) (n : ℕ) → n ≤ most_items → Sound text (OpenBody w n)
  unfolding place_in many_in word_in
  body-sound w n h = record { place = omega arith; many = h; word = omega arith }

  joint-sound : (w : Word) (n : ℕ) (e : _) → n ≤ most_items → Sound text (OpenJoint w n e)
  unfolding place_in many_in word_in
  joint-sound w n e h = record { place = omega arith; many = h; word = omega arith }

  body-line-sound : (names : List ℕ) (st : State) (at : ℕ) → at ≤ length text → Sound text (body_line text names st at)
  unfolding body_line
  body-line-sound names st at h =
      let w = next_word text at in
      let s = start-inside text at h in
      fault-sound (name_fault text names st w) w.start _ s
      (counted-sound st.bodies _ w.start fault_bodies_full s
      (λ l. whole-sound w.end _ (end-inside text at h) (body-sound w (st.bodies + 1) (omega arith))))

  between-sound : (u : Word) (joints : ℕ) (v w : Word) (o p : Option ℕ) → v.start ≤ length text → w.start ≤ length text → w.end ≤ length text → joints ≤ most_items → Sound text (between text u joints v w o p)
  unfolding between
  between-sound u joints v w None p s t e l = wrong-sound fault_no_body v.start s
  between-sound u joints v w (Some i) None s t e l = wrong-sound fault_no_body w.start t
  between-sound u joints v w (Some i) (Some j) s t e l = whole-sound w.end _ e (joint-sound u joints _ l)

  ends-sound : (names : List ℕ) (bodies : ℕ) (u : Word) (joints : ℕ) → u.end ≤ length text → joints ≤ most_items → Sound text (ends_line text names bodies u joints)
  unfolding ends_line
  ends-sound names bodies u joints h l =
      let v = next_word text u.end in
      let w = next_word text v.end in
      let e = end-inside text u.end h in
      between-sound u joints v w (find_end text names bodies v) (find_end text names bodies w) (start-inside text u.end h) (start-inside text v.end e) (end-inside text v.end e) l

  joint-line-sound : (names : List ℕ) (st : State) (at : ℕ) → at ≤ length text → Sound text (joint_line text names st at)
  unfolding joint_line
  joint-line-sound names st at h =
      let w = next_word text at in
      let s = start-inside text at h in
      fault-sound (name_fault text names st w) w.start _ s
      (counted-sound st.joints _ w.start fault_joints_full s
      (λ l. ends-sound names st.bodies w (st.joints + 1) (end-inside text at h) (omega arith)))

  module _ (names : List ℕ) (st : State) (w : Word) (s : w.start ≤ length text) (e : w.end ≤ length text) where
    field-line-sound : Sound text (field_line text st w)
    unfolding field_line
    field-line-sound =
        let kind = (field_of text w).kind in
        cond-sound (eqb kind no_item) _ _ (wrong-sound fault_unknown w.start s) (fault-sound (kind_fault st kind) w.start _ s (field-sound w e))

    open-sound : (keyword : ℕ) → Sound text (open_line text names st keyword w)
    unfolding open_line place_in many_in word_in
    open-sound keyword =
        cond-sound (eqb st.kind calls_item) _ _ (wrong-sound fault_after_calls w.start s)
        (cond-sound (eqb keyword settings_keyword) _ _ (whole-sound w.end OpenSettings e (record { place = omega arith; many = omega arith; word = omega arith }))
        (cond-sound (eqb keyword body_keyword) _ _ (body-line-sound names st w.end e) (joint-line-sound names st w.end e)))

    item-sound : Sound text (item_line text names st w)
    unfolding item_line
    item-sound =
        let keyword = item_keyword text w in
        cond-sound (eqb keyword 0) _ _ field-line-sound
        (cond-sound (leb settings_keyword keyword) _ _ (open-sound keyword)
        (fault-sound (kind_fault st (kind_of keyword)) w.start _ s (word-line-sound keyword w e)))

    call-sound : Sound text (call_line text names st w)
    unfolding call_line place_in many_in word_in
    call-sound =
        let c = call-within text names st.bodies st.joints (is_some st.repeat) w s e in
        let l = read_call text names st.bodies st.joints (is_some st.repeat) w in
        fault-there-sound l.fault _ c.fault (whole-sound l.at (Call l.keyword w.start) c.at (record { place = s; many = omega arith; word = omega arith }))

  pub line-sound : (names : List ℕ) (st : State) → st.at ≤ length text → Sound text (line_of text names st)
  unfolding line_of place_in many_in word_in
  line-sound names st h =
      let s = start-inside text st.at h in
      let e = end-inside text st.at h in
      let w = next_word text st.at in
      cond-sound (is_empty w) Nothing _ (record { place = omega arith; many = omega arith; word = omega arith })
      (cond-sound (eqb (call_keyword text w) 0) _ _ (item-sound names st w s e) (call-sound names st w s e))

-- ---- and then of what has been read

pub record Kept (text : List ℕ) (st : State) : Type 0 where
  pub at : st.at ≤ length text
  pub fault : offset_of st.fault ≤ length text
  pub repeat : unwrap_or st.repeat 0 ≤ length text
  pub bodies : st.bodies ≤ most_items
  pub joints : st.joints ≤ most_items

module _ (text : List ℕ) where
  applied-kept : (change : Change) (d : Draft) → Sound text change → Kept text d.state → Kept text (applied change d).state
  unfolding applied open_body open_joint place_in many_in
  applied-kept Nothing d s k = k
  applied-kept (Wrong fault at) d s k = record { at = k.at; fault = s.place; repeat = k.repeat; bodies = k.bodies; joints = k.joints }
  applied-kept (Given n) d s k = k
  applied-kept (JointWord place value at) d s k = k
  applied-kept OpenSettings d s k = record { at = k.at; fault = k.fault; repeat = k.repeat; bodies = k.bodies; joints = k.joints }
  applied-kept (OpenBody w n) d s k = record { at = k.at; fault = k.fault; repeat = k.repeat; bodies = s.many; joints = k.joints }
  applied-kept (OpenJoint w n e) d s k = record { at = k.at; fault = k.fault; repeat = k.repeat; bodies = k.bodies; joints = s.many }
  applied-kept (Call keyword at) d s k = record {
    at = k.at;
    fault = k.fault;
    repeat = by_cases (eqb keyword repeat_keyword) (λ e. rw e s.place) (λ e. by_cases (eqb keyword end_keyword) (λ f. rw (e, f) (omega arith)) (λ f. rw (e, f) k.repeat));
    bodies = k.bodies;
    joints = k.joints;
  }

  draft-kept : (t : Bool) (a b : Draft) → Kept text a.state → Kept text b.state → Kept text (cond t a b).state
  draft-kept true a b p q = p
  draft-kept false a b p q = q

  state-kept : (t : Bool) (a b : State) → Kept text a → Kept text b → Kept text (cond t a b)
  state-kept true a b p q = p
  state-kept false a b p q = q

  pub line_kept : (d : Draft) → Kept text d.state → Kept text (line_read text d).state
  unfolding line_read
  line_kept d k =
      let a = applied-kept (line_of text d.names d.state) d (line-sound text d.names d.state k.at) k in
      draft-kept (is_some d.state.fault) d _ k
      (draft-kept (leb (length text) d.state.at) d _ k
      (record { at = next-line-inside text d.state.at k.at; fault = a.fault; repeat = a.repeat; bodies = a.bodies; joints = a.joints }))

  lines-kept : (n : ℕ) (d : Draft) → Kept text d.state → Kept text (lines_read text n d).state
  unfolding lines_read
  lines-kept zero d k = k
  lines-kept (suc n) d k = lines-kept n (line_read text d) (line_kept d k)

  left-kept : (o : Option ℕ) (st : State) → unwrap_or o 0 ≤ length text → Kept text st → Kept text (left_open o st)
  unfolding left_open
  left-kept (Some at) st p k = record { at = k.at; fault = p; repeat = k.repeat; bodies = k.bodies; joints = k.joints }
  left-kept None st p k = k

  ended-kept : (st : State) → Kept text st → Kept text (ended st)
  unfolding ended
  ended-kept st k =
      state-kept (is_some st.fault) st _ k
      (left-kept st.repeat st k.repeat k)

same-state : (t : Bool) (a b : Draft) → a.state ≡ b.state → (cond t a b).state ≡ b.state
same-state true a b p = p
same-state false a b p = refl

center-state : (j : ℕ) (d : Draft) → (center_joint j d).state ≡ d.state
unfolding center_joint
center-state j d = same-state (is_left_out d.numbers d.origins (joint_base j)) _ d refl

centers-state : (j n : ℕ) (d : Draft) → (center_joints j n d).state ≡ d.state
unfolding center_joints
centers-state j zero d = refl
centers-state j (suc n) d = centers-state (j + 1) n (center_joint j d) ∙ center-state j d

pub all-inside : AllInside
unfolding read_study
all-inside text numbers origins words names =
    let d = lines_read text (length text) (draft start (puts 0 settings_defaults numbers) origins words names) in
    let k = ended-kept text d.state (lines-kept text (length text) (draft start (puts 0 settings_defaults numbers) origins words names) (record { at = omega arith; fault = omega arith; repeat = omega arith; bodies = omega arith; joints = omega arith })) in
    let e = centers-state 0 (ended d.state).joints (draft (ended d.state) d.numbers d.origins d.words d.names) in
    record { fault = rw e k.fault; bodies = rw e k.bodies; joints = rw e k.joints }

-- ---- defaults

pub defaults : Defaults
unfolding puts default_at
defaults base k [] numbers other h = refl
defaults base k (d ∷ ds) numbers other h =
    defaults base k ds (set numbers (base + d.place) d.value) other (rw length-set h)
    ∙ ap (default_at ds k)
    (by_cases (eqb d.place k)
    (λ e. let p = eqb-true d.place k e in rw (e, p) (get_or-set_same numbers (base + k) d.value other h))
    (λ e. rw e (get_or-set_other numbers (base + d.place) (base + k) d.value other (λ q. eqb-false d.place k e (omega arith)))))

-- ---- replaced numbers

set-again : (l : List Float) (i : ℕ) (a b : Float) → set (set l i a) i b ≡ set l i b
set-again [] i a b = refl
set-again (x ∷ xs) zero a b = refl
set-again (x ∷ xs) (suc i) a b = ap (λ (r : List Float). x ∷ r) (set-again xs i a b)

pair-again : (l : List Float) (i : ℕ) (a b c d : Float) → set (set (set (set l i a) (suc i) b) i c) (suc i) d ≡ set (set l i c) (suc i) d
pair-again [] i a b c d = refl
pair-again (x ∷ xs) zero a b c d = ap (λ (r : List Float). c ∷ r) (set-again xs zero b d)
pair-again (x ∷ xs) (suc i) a b c d = ap (λ (r : List Float). x ∷ r) (pair-again xs i a b c d)

pub replaced : Replaced
unfolding numbers_with second
replaced st m n numbers p q =
    rw (p, q)
    (by_cases (ltb 1 n.many) (λ e. rw (e, add-one) (pair-again numbers (item_base st + n.place) m.x m.y n.x n.y))
    (λ e. rw e (set-again numbers (item_base st + n.place) m.x n.x)))
