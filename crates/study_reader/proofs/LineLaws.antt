-- The laws of specs/LineLaws.antt: what lines of masks, of an angle or a mass, and of `place` read as.
use Prim.Native.Nat.{ℕ, zero, suc, ◌+◌, ◌-◌, ◌≤◌, ◌<◌}
use mathlib.Core.Path.{◌≡◌, refl, sym, ap, ◌∙◌}
use mathlib.Core.Bool.{true, false, cond}
use mathlib.Core.List.{List, [], ◌∷◌, ◌++◌, map}
use native.Mathlib.Omega.{arith}
use borrow.Author.Tests.{eq-eqb, lt-leb, leb-true}
use lib.Bits.{bit_or}
use lib.Dec.{eqb, ltb, leb}
use lib.Ieee.{Float}
use lib.ListN.{length, set, take, drop}
use Rattle.texts.specs.Digits.{is_digit}
use Rattle.texts.specs.Ascii.{ascii}
use Rattle.motor_table.specs.WholeNumber.{digits_after}
use Rattle.floats.specs.SinCos.{rotation_from_angle_of}
use Rattle.decimals.specs.Words.{reading_of}
use Rattle.std.specs.Prelude.{Ok}
use Rattle.model.specs.Layout.{masks_place, center_choice_place}
use Rattle.study_reader.specs.Words.{same_bytes, next_word, is_empty, bytes_of, next_line, whole_number, whole_up_to}
use Rattle.study_reader.specs.Numbers.{number_in, number_fault, value_of}
use Rattle.study_reader.specs.Storage.{body_base, joint_base, words_base}
use Rattle.study_reader.specs.Keywords.{meaning, axis_words, item_words, body_words, mask_words, joint_words, call_words, read_words, body_item, joint_item, calls_item, mass_keyword, inertia_keyword, inverse_mass_keyword, angle_keyword, frame1_angle_keyword, frame2_angle_keyword, lock_keyword, limit_keyword, motor_keyword, couple_keyword, motor_model_keyword, settings_keyword, place_keyword}
use Rattle.study_reader.specs.Draft.{Draft, draft, reached, item_base, Default, default, puts}
use Rattle.study_reader.specs.Calls.{bare_call, with_word, with_number, with_pose, with_rotation, bit_of, of_number, of_named, rotation_of, pose_of, place_of, arguments, read_call}
use Rattle.study_reader.specs.Items.{or_fault, or_fault_there, whole, no_center, given_by, given_line, axes_from, named_mask, mask_line, word_line, kind_fault, kind_of, item_line, call_line, line_of}
use Rattle.study_reader.specs.Study.{second, numbers_with, center_with, word_with, applied, line_read}
use Rattle.study_reader.specs.LineLaws.{HasWords, Next, Leaves, Axis, x, y, angle, axis_name, axis_mask, union, GivesMask, MaskLines, GivesNumbers, NumberLines, Placed, NamesBody, PlaceLines}
use Rattle.study_reader.specs.declared.words.Word.{Word}
use Rattle.std.specs.Prelude.{Some, None, is_some}
use Rattle.study_reader.specs.declared.draft.State.{State}
use Rattle.study_reader.specs.declared.calls.Line.{Line}
use Rattle.study_reader.specs.declared.items.Numbers.{Numbers}
use Rattle.study_reader.specs.declared.items.Change.{Change}
use Rattle.study_reader.specs.declared.items.Change.TheVariants.{Given, JointWord, Call}
use Rattle.study_reader.proofs.Places.{by_cases}

-- ---- words

-- a word with bytes is there
pub word-there : (text : List ℕ) (w : Word) (b : ℕ) (bs : List ℕ) → bytes_of text w ≡ b ∷ bs → is_empty w ≡ false
unfolding is_empty bytes_of
word-there text w b bs e =
    by_cases (leb w.end w.start)
    (λ t. let l = leb-true w.end w.start t in
    let n : w.end - w.start ≡ 0 = omega arith in
    let z : [] ≡ b ∷ bs = sym (ap (λ (k : ℕ). take k (drop w.start text)) n) ∙ e in absurd (let i : ◌≡◌ {A = ℕ} 0 1 = cc in let j : ⊥ = omega arith in j))
    (λ t. t)

number-there : (text : List ℕ) (w : Word) (bs : List ℕ) (a : Float) → bytes_of text w ≡ bs → reading_of bs ≡ Ok a → is_empty w ≡ false
unfolding reading_of
number-there text w [] a e r = let i : ◌≡◌ {A = ℕ} 0 1 = cc in absurd (let j : ⊥ = omega arith in j)
number-there text w (b ∷ bs) a e r = word-there text w b bs e

-- ---- what a line says, and what it leaves

module _ (text : List ℕ) (d : Draft) (f : d.state.fault ≡ None) (l : d.state.at < length text) where
  line-is : (change : Change) → line_of text d.names d.state ≡ change
      → line_read text d ≡ draft (reached (applied change d).state (next_line text d.state.at)) (applied change d).numbers (applied change d).origins (applied change d).words (applied change d).names
  unfolding line_read
  line-is change e = simp (f, lt-leb (length text) d.state.at l, e)

  leaves_word : (place value at : ℕ) → line_of text d.names d.state ≡ JointWord place value at
      → Leaves text d d.numbers (set d.words (words_base d.state.item + place) value)
  unfolding applied word_with
  leaves_word place value at e =
      let r = line-is (JointWord place value at) e in
      record {
        these_numbers = ap (λ (a : Draft). a.numbers) r;
        these_words = ap (λ (a : Draft). a.words) r;
        names_stay = ap (λ (a : Draft). a.names) r;
        state_stays = ap (λ (a : Draft). a.state) r;
      }

  leaves-numbers : (n : Numbers) → line_of text d.names d.state ≡ Given n → n.center ≡ no_center
      → Leaves text d (numbers_with d.state n d.numbers) d.words
  unfolding applied center_with
  leaves-numbers n e c =
      let r = line-is (Given n) e in
      record {
        these_numbers = ap (λ (a : Draft). a.numbers) r;
        these_words = ap (λ (a : Draft). a.words) r ∙ ap (λ (k : ℕ). cond (ltb k no_center) (set d.words (words_base d.state.item + center_choice_place) k) d.words) c;
        names_stay = ap (λ (a : Draft). a.names) r;
        state_stays = ap (λ (a : Draft). a.state) r;
      }

-- ---- the first word of a line of an item

abbrev item_table : List ℕ → ℕ
item_table kw = meaning (item_words ++ (body_words ++ (mask_words ++ joint_words))) 0 kw

abbrev call_table : List ℕ → ℕ
call_table kw = meaning (call_words ++ read_words) 0 kw

-- a word that is no call's, opens no item, and is one of an item of this kind
abbrev IsItemWord : List ℕ → ℕ → ℕ → Type 0
IsItemWord kw kind keyword =
    (call_table kw ≡ 0) × (item_table kw ≡ keyword) × (eqb keyword 0 ≡ false) × (leb settings_keyword keyword ≡ false) × (kind_of keyword ≡ kind) × (eqb kind calls_item ≡ false)

module _ (text names : List ℕ) (st : State) (b : ℕ) (bs : List ℕ) (kind keyword : ℕ) (t : IsItemWord (b ∷ bs) kind keyword) where
  says : st.kind ≡ kind → bytes_of text (next_word text st.at) ≡ b ∷ bs → line_of text names st ≡ word_line text keyword (next_word text st.at)
  unfolding line_of item_line or_fault kind_fault
  says k e = simp (word-there text (next_word text st.at) b bs e, e, t.0, t.1, t.2, t.3, t.4, k, t.5, eq-eqb kind kind refl)

-- ---- masks

module _ (text : List ℕ) (at place mask : ℕ) (number : List ℕ) where
  mask-number : whole_number number ≡ Some mask → HasWords text at (number ∷ []) → mask_line text at place ≡ JointWord place mask (next_word text at).start
  unfolding mask_line whole
  mask-number n (e, z) = simp (e, n, z)

module _ (text : List ℕ) (place origin : ℕ) (named : (a : Axis) → (ltb 2 (meaning axis_words 3 (axis_name a)) ≡ false) × (bit_of (meaning axis_words 3 (axis_name a)) ≡ axis_mask a)) (there : (w : Word) (a : Axis) → bytes_of text w ≡ axis_name a → is_empty w ≡ false) where
  axes-read : (axes : List Axis) (n mask at : ℕ) → length axes ≤ n → HasWords text at (map axis_name axes) → axes_from text place origin n mask at ≡ JointWord place (union mask axes) origin
  unfolding axes_from whole
  axes-read [] zero mask at l h = rw h
  axes-read [] (suc n) mask at l h = rw h
  axes-read (a ∷ axes) zero mask at l h = absurd (let j : ⊥ = omega arith in j)
  axes-read (a ∷ axes) (suc n) mask at l (e, h) =
      simp (there (next_word text at) a e, e, (named a).0, (named a).1) (axes-read axes n (bit_or mask (axis_mask a)) (next_word text at).end (omega arith) h)

axis-there : (text : List ℕ) (w : Word) (a : Axis) → bytes_of text w ≡ axis_name a → is_empty w ≡ false
axis-there text w x e = word-there text w _ _ e
axis-there text w y e = word-there text w _ _ e
axis-there text w angle e = word-there text w _ _ e

axis-no-number : (a : Axis) → whole_number (axis_name a) ≡ None
unfolding whole_number whole_up_to digits_after is_digit
axis-no-number x = refl
axis-no-number y = refl
axis-no-number angle = refl

-- what a mask's axis is by its name
abbrev IsNamed : Axis → Type 0
IsNamed a = (ltb 2 (meaning axis_words 3 (axis_name a)) ≡ false) × (bit_of (meaning axis_words 3 (axis_name a)) ≡ axis_mask a)

module _ {b : ℕ} {bs : List ℕ} {place : ℕ} (keyword : ℕ) (t : IsItemWord (b ∷ bs) joint_item keyword) (m : (ltb keyword lock_keyword ≡ false) × (ltb keyword motor_model_keyword ≡ true)) (p : masks_place + (keyword - lock_keyword) ≡ place) where
  mask-line : (text : List ℕ) (d : Draft) (ws : List (List ℕ)) → Next text joint_item ((b ∷ bs) ∷ ws) d
      → line_of text d.names d.state ≡ mask_line text (next_word text d.state.at).end place
  unfolding word_line
  mask-line text d ws n = says text d.names d.state b bs joint_item keyword t n.item n.words.0 ∙ simp (m.0, m.1, p)

  gives-mask : ((a : Axis) → IsNamed a) → GivesMask (b ∷ bs) place
  unfolding mask_line named_mask
  gives-mask named = record { by_number = number; by_name = name }
    where
      number : (text : List ℕ) (d : Draft) (digits : List ℕ) (mask : ℕ) → whole_number digits ≡ Some mask → Next text joint_item ((b ∷ bs) ∷ digits ∷ []) d
          → Leaves text d d.numbers (set d.words (words_base d.state.item + place) mask)
      number text d digits mask e n =
          leaves_word text d n.no_fault n.left place mask _
          (mask-line text d (digits ∷ []) n ∙ mask-number text (next_word text d.state.at).end place mask digits e n.words.1)

      name : (text : List ℕ) (d : Draft) (axes : List Axis) → 0 < length axes → length axes ≤ 3 → Next text joint_item ((b ∷ bs) ∷ map axis_name axes) d
          → Leaves text d d.numbers (set d.words (words_base d.state.item + place) (union 0 axes))
      name text d [] s l n = absurd (let j : ⊥ = omega arith in j)
      name text d (a ∷ axes) s l n =
          let at = (next_word text d.state.at).end in
          let w = next_word text at in
          let e = n.words.1.0 in
          leaves_word text d n.no_fault n.left place (union 0 (a ∷ axes)) w.start
          (mask-line text d (map axis_name (a ∷ axes)) n
          ∙ simp (ap whole_number e ∙ axis-no-number a, axis-there text w a e)
          (axes-read text place w.start named (axis-there text) (a ∷ axes) 3 0 at l n.words.1))

pub mask-lines : MaskLines
unfolding meaning same_bytes
mask-lines =
    record {
      lock = gives-mask lock_keyword (refl, refl, refl, refl, refl, refl) (refl, refl) refl named;
      limit = gives-mask limit_keyword (refl, refl, refl, refl, refl, refl) (refl, refl) refl named;
      motor = gives-mask motor_keyword (refl, refl, refl, refl, refl, refl) (refl, refl) refl named;
      couple = gives-mask couple_keyword (refl, refl, refl, refl, refl, refl) (refl, refl) refl named;
    }
  where
    named : (a : Axis) → IsNamed a
    named x = (refl, refl)
    named y = (refl, refl)
    named angle = (refl, refl)

-- ---- one number that gives others

-- the numbers that a line gives, by their places
unfoldable listed : Numbers → List Default
listed n = cond (ltb 1 n.many) (default n.place n.x ∷ default (n.place + 1) n.y ∷ []) (default n.place n.x ∷ [])

listed-put : (st : State) (n : Numbers) (base : ℕ) (numbers : List Float) → item_base st ≡ base → numbers_with st n numbers ≡ puts base (listed n) numbers
unfolding numbers_with second puts listed
listed-put st n base numbers e =
    let f : item_base st + n.place + 1 ≡ base + (n.place + 1) = omega arith in
    by_cases (ltb 1 n.many) (λ t. rw (t, f, e)) (λ t. rw (t, e))

body-base : (st : State) → st.kind ≡ body_item → item_base st ≡ body_base st.item
unfolding item_base
body-base st e = rw e

joint-base : (st : State) → st.kind ≡ joint_item → item_base st ≡ joint_base st.item
unfolding item_base
joint-base st e = rw e

module _ {b : ℕ} {bs : List ℕ} {kind : ℕ} {base : ℕ → ℕ} {these : Float → List Default} (keyword : ℕ) (t : IsItemWord (b ∷ bs) kind keyword) (l : ltb keyword lock_keyword ≡ true) (at_base : (st : State) → st.kind ≡ kind → item_base st ≡ base st.item) where
  gives-numbers : ((a : Float) (at : ℕ) → (listed (given_by keyword a at) ≡ these a) × ((given_by keyword a at).center ≡ no_center)) → GivesNumbers (b ∷ bs) kind base these
  unfolding word_line given_line whole or_fault number_fault value_of number_in
  gives-numbers given = record {
    by_number = λ text d number a r n.
        let w = next_word text (next_word text d.state.at).end in
        let g = given_by keyword a w.start in
        let e : line_of text d.names d.state ≡ Given g =
        says text d.names d.state b bs kind keyword t n.item n.words.0 ∙ simp (l, n.words.1.0, r, n.words.1.1) in
        let p : numbers_with d.state g d.numbers ≡ puts (base d.state.item) (these a) d.numbers =
        listed-put d.state g (base d.state.item) d.numbers (at_base d.state n.item) ∙ ap (λ (ps : List Default). puts (base d.state.item) ps d.numbers) (given a w.start).0 in
        rw p at (leaves-numbers text d n.no_fault n.left g e (given a w.start).1);
  }

pub number-lines : NumberLines
unfolding meaning same_bytes listed given_by
number-lines =
    record {
      angle = gives-numbers angle_keyword (refl, refl, refl, refl, refl, refl) refl body-base (λ a at. (refl, refl));
      frame1_angle = gives-numbers frame1_angle_keyword (refl, refl, refl, refl, refl, refl) refl joint-base (λ a at. (refl, refl));
      frame2_angle = gives-numbers frame2_angle_keyword (refl, refl, refl, refl, refl, refl) refl joint-base (λ a at. (refl, refl));
      mass = gives-numbers mass_keyword (refl, refl, refl, refl, refl, refl) refl body-base (λ a at. (refl, refl));
      inverse_mass = gives-numbers inverse_mass_keyword (refl, refl, refl, refl, refl, refl) refl body-base (λ a at. (refl, refl));
      inertia = gives-numbers inertia_keyword (refl, refl, refl, refl, refl, refl) refl body-base (λ a at. (refl, refl));
    }

-- ---- `place`

module _ (text names : List ℕ) (st : State) where
  call_line_lem : bytes_of text (next_word text st.at) ≡ ascii "place" → line_of text names st ≡ call_line text names st (next_word text st.at)
  unfolding line_of meaning same_bytes
  call_line_lem e = simp (word-there text (next_word text st.at) _ _ e, e)

  call-says : (w : Word) (l : Line) → read_call text names st.bodies st.joints (is_some st.repeat) w ≡ l → l.fault ≡ None → is_empty (next_word text l.at) ≡ true
      → call_line text names st w ≡ Call l.keyword w.start
  unfolding call_line whole or_fault_there
  call-says w l e f z = rw (e, f, z)

module _ (text names : List ℕ) (st : State) (i : ℕ) (body nx ny : List ℕ) (px py : Float) (named : NamesBody text names st i) (rx : reading_of nx ≡ Ok px) (ry : reading_of ny ≡ Ok py) where
  -- the words of the line, one after the other
  abbrev w0 : Word
  w0 = next_word text st.at

  abbrev w1 : Word
  w1 = next_word text w0.end

  abbrev w2 : Word
  w2 = next_word text w1.end

  abbrev w3 : Word
  w3 = next_word text w2.end

  abbrev w4 : Word
  w4 = next_word text w3.end

  abbrev w5 : Word
  w5 = next_word text w4.end

  -- the line of the call before its rotation is read, and after it
  abbrev posed : Line
  posed = with_pose (with_number (with_word (bare_call place_keyword w0.end) w1) i) px py w3.end

  by_angle : (na : List ℕ) (a : Float) → reading_of na ≡ Ok a → HasWords text st.at (ascii "place" ∷ body ∷ nx ∷ ny ∷ na ∷ [])
      → Placed text names st i px py (rotation_from_angle_of a).re (rotation_from_angle_of a).im
  unfolding arguments place_of pose_of rotation_of of_named of_number number_in meaning same_bytes
  by_angle na a ra (e0, (e1, (e2, (e3, (e4, z))))) =
      let l : read_call text names st.bodies st.joints (is_some st.repeat) w0 ≡ with_rotation posed (rotation_from_angle_of a).re (rotation_from_angle_of a).im w4.end =
      simp (e0, named, e2, rx, e3, ry, e4, ra, z) in (
        rw l (record { call = refl; no_fault = refl; body_is = refl; x_is = refl; y_is = refl; re_is = refl; im_is = refl }),
        call_line_lem text names st e0 ∙ call-says text names st w0 _ l refl z,
      )

  by_pair : (nc ns : List ℕ) (c s : Float) → reading_of nc ≡ Ok c → reading_of ns ≡ Ok s → HasWords text st.at (ascii "place" ∷ body ∷ nx ∷ ny ∷ nc ∷ ns ∷ [])
      → Placed text names st i px py c s
  unfolding arguments place_of pose_of rotation_of of_named of_number number_in meaning same_bytes
  by_pair nc ns c s rc rs (e0, (e1, (e2, (e3, (e4, (e5, z)))))) =
      let l : read_call text names st.bodies st.joints (is_some st.repeat) w0 ≡ with_rotation posed c s w5.end =
      simp (e0, named, e2, rx, e3, ry, e4, rc, number-there text w5 ns s e5 rs, e5, rs) in (
        rw l (record { call = refl; no_fault = refl; body_is = refl; x_is = refl; y_is = refl; re_is = refl; im_is = refl }),
        call_line_lem text names st e0 ∙ call-says text names st w0 _ l refl z,
      )

pub place-lines : PlaceLines
place-lines = record {
  by_angle = λ text names st i body nx ny na px py a b rx ry. by_angle text names st i body nx ny px py b rx ry na a;
  by_pair = λ text names st i body nx ny nc ns px py c s b rx ry. by_pair text names st i body nx ny px py b rx ry nc ns c s;
}
