-- What the proofs of the reading cite: bases and places fit, and one turn of each loop.
use Prim.Native.Nat.{ℕ, zero, suc, ◌+◌, ◌*◌, ◌-◌, ◌≤◌, ◌<◌}
use mathlib.Core.Path.{◌≡◌, refl}
use mathlib.Core.Bool.{Bool, true, false, cond, ◌&&◌, false≢true}
use mathlib.Core.List.{List, [], ◌∷◌}
use native.Mathlib.Nat.{mul-le-mul}
use native.Mathlib.Omega.{arith}
use borrow.Author.Tests.{ltb-true, leb-true}
use lib.Bits.{bit_or}
use lib.Dec.{ltb, leb}
use Rattle.model.specs.Layout.{body_width, words_width, numbers_width, motor_width}
use Rattle.study_reader.specs.Words.{next_word, is_empty, same_bytes, bytes_of}
use Rattle.study_reader.specs.Faults.{fault_axis}
use Rattle.study_reader.specs.Storage.{most_items, settings_width, joints_place, numbers_size, words_size, body_base, joint_base, words_base}
use Rattle.study_reader.specs.Keywords.{Named, meaning, axis_of, field_of}
use Rattle.study_reader.specs.Draft.{Draft}
use Rattle.study_reader.specs.Calls.{bit_of}
use Rattle.study_reader.specs.Items.{whole, axes_from}
use Rattle.study_reader.specs.Study.{line_read, lines_read, center_joint, center_joints}
use Rattle.study_reader.specs.declared.words.Word.{Word}
use Rattle.study_reader.specs.declared.fields.Field.{Field}
use Rattle.study_reader.specs.declared.items.Change.TheVariants.{Wrong, JointWord}

-- ---- bases

below : (b : Bool) (x y n : ℕ) → (b ≡ true → x ≤ n) → y ≤ n → cond b x y ≤ n
below true x y n h k = h refl
below false x y n h k = k

pub body-base-small : (i : ℕ) → body_base i ≤ numbers_size
unfolding body_base
body-base-small i = below (ltb i most_items) (settings_width + body_width * i) numbers_size numbers_size (λ e. let h = ltb-true i most_items e in omega arith) (omega arith)

pub joint-base-small : (j : ℕ) → joint_base j ≤ numbers_size
unfolding joint_base
joint-base-small j = below (ltb j most_items) (joints_place + numbers_width * j) numbers_size numbers_size (λ e. let h = ltb-true j most_items e in omega arith) (omega arith)

pub words-base-small : (j : ℕ) → words_base j ≤ words_size
unfolding words_base
words-base-small j = below (ltb j most_items) (words_width * j) words_size words_size (λ e. let h = ltb-true j most_items e in omega arith) (omega arith)

-- ---- fields: a place of the table, with the axes' strides, is one of the item

pub and_first : (a b : Bool) → a && b ≡ true → a ≡ true
and_first true b h = refl
and_first false b h = absurd (false≢true h)

pub and_second : (a b : Bool) → a && b ≡ true → b ≡ true
and_second true b h = h
and_second false b h = absurd (false≢true h)

all_mean : {A : Type 0} → (A → Bool) → List (Named A) → Bool
all_mean test [] = true
all_mean test (l ∷ ls) = test l.means && all_mean test ls

pick : {A : Type 0} (test : A → Bool) (b : Bool) (x y : A) → test x ≡ true → test y ≡ true → test (cond b x y) ≡ true
pick test true x y p q = p
pick test false x y p q = q

meaning-all : {A : Type 0} (test : A → Bool) (ls : List (Named A)) (other : A) (bytes : List ℕ) → all_mean test ls ≡ true → test other ≡ true → test (meaning ls other bytes) ≡ true
unfolding meaning all_mean
meaning-all test [] other bytes a o = o
meaning-all test (l ∷ ls) other bytes a o =
    pick test (same_bytes bytes l.word) l.means (meaning ls other bytes) (and_first (test l.means) (all_mean test ls) a)
    (meaning-all test ls other bytes (and_second (test l.means) (all_mean test ls) a) o)

small_field : Field → Bool
small_field f = ltb f.place numbers_width && leb f.stride motor_width

field-is-small : (text : List ℕ) (w : Word) → small_field (field_of text w) ≡ true
unfolding all_mean small_field
field-is-small text w = meaning-all small_field _ _ (bytes_of text w) refl refl

pub field-place-small : (text : List ℕ) (w : Word) → (field_of text w).place < numbers_width
unfolding small_field
field-place-small text w = ltb-true _ _ (and_first _ _ (field-is-small text w))

pub field-stride-small : (text : List ℕ) (w : Word) → (field_of text w).stride ≤ motor_width
unfolding small_field
field-stride-small text w = leb-true _ _ (and_second (ltb (field_of text w).place numbers_width) _ (field-is-small text w))

pub small_product : {a s : ℕ} → a ≤ 2 → s ≤ motor_width → a * s ≤ 2 * motor_width
small_product h k = mul-le-mul h k

-- ---- axes of a mask

pub axes-step : (text : List ℕ) (place origin n mask at : ℕ) → 0 < n
    → axes_from text place origin n mask at
    ≡ cond (is_empty (next_word text at)) (JointWord place mask origin)
    (cond (ltb 2 (axis_of text (next_word text at))) (Wrong fault_axis (next_word text at).start)
    (axes_from text place origin (n - 1) (bit_or mask (bit_of (axis_of text (next_word text at)))) (next_word text at).end))
unfolding axes_from
axes-step text place origin zero mask at h = absurd (omega arith)
axes-step text place origin (suc n) mask at h = let e : suc n - 1 ≡ n = omega arith in rw e

pub axes-done : (text : List ℕ) (place origin n mask at : ℕ) → n ≤ 0 → axes_from text place origin n mask at ≡ whole text at (JointWord place mask origin)
unfolding axes_from
axes-done text place origin zero mask at h = refl
axes-done text place origin (suc n) mask at h = absurd (omega arith)

-- ---- lines

pub lines_step : (text : List ℕ) (n : ℕ) (d : Draft) → 0 < n → lines_read text n d ≡ lines_read text (n - 1) (line_read text d)
unfolding lines_read
lines_step text zero d h = absurd (omega arith)
lines_step text (suc n) d h = let e : suc n - 1 ≡ n = omega arith in rw e

pub lines-done : (text : List ℕ) (n : ℕ) (d : Draft) → n ≤ 0 → lines_read text n d ≡ d
unfolding lines_read
lines-done text zero d h = refl
lines-done text (suc n) d h = absurd (omega arith)

-- where a line changes nothing, no number of them does
pub lines-over : (text : List ℕ) (n : ℕ) (d : Draft) → line_read text d ≡ d → lines_read text n d ≡ d
unfolding lines_read
lines-over text zero d h = refl
lines-over text (suc n) d h = rw h (lines-over text n d h)

-- ---- centres

pub centers-step : (joints j : ℕ) (d : Draft) → j < joints → center_joints j (joints - j) d ≡ center_joints (j + 1) (joints - (j + 1)) (center_joint j d)
unfolding center_joints
centers-step joints j d h = let e : joints - j ≡ suc (joints - (j + 1)) = omega arith in rw e

pub centers-done : (joints j : ℕ) (d : Draft) → joints ≤ j → center_joints j (joints - j) d ≡ d
unfolding center_joints
centers-done joints j d h = let e : joints - j ≡ 0 = omega arith in rw e
