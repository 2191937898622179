-- What one line of a study says (docs/STUDY.md): a number or a word of the item that is open, an item, a call; or its first fault. A line with a fault says
-- nothing else.
use Rattle.std.specs.Prelude.{cond, Option, Some, None, is_some, List, ℕ, zero, suc, ◌+◌, ◌*◌, ◌-◌, eqb, ltb, leb, Float}
use Rattle.std.specs.Int.Bits.{bit_or}
use Rattle.floats.specs.Operators.{bits}
use Rattle.floats.specs.Utils.{inv_of}
use Rattle.floats.specs.SinCos.{rotation_from_angle_of}
use Rattle.texts.specs.Ascii.{ascii}
use Rattle.model.specs.Layout.{pose_place, inertia_place, mass_place, masks_place, models_place, enabled_place, frame1_place, frame2_place, center_place}
use Rattle.study_reader.specs.Words.{next_word, is_empty, is_word, holds_byte, whole_of}
use Rattle.study_reader.specs.Numbers.{number_in, number_fault, value_of}
use Rattle.study_reader.specs.Storage.{most_items}
use Rattle.study_reader.specs.Names.{find_body, find_joint, find_end}
use Rattle.study_reader.specs.Faults.{fault_unknown, fault_name, fault_taken, fault_no_body, fault_line_end, fault_axis, fault_bodies_full, fault_joints_full, fault_after_calls, fault_elsewhere, fault_model, fault_world_name, fault_long_name, fault_plain_name}
use Rattle.study_reader.specs.Keywords.{axis_of, field_of, no_item, body_item, joint_item, calls_item, item_keyword, call_keyword, mass_keyword, inverse_mass_keyword, inertia_keyword, angle_keyword, frame1_angle_keyword, frame2_angle_keyword, lock_keyword, motor_model_keyword, enabled_keyword, center_keyword, settings_keyword, body_keyword}
use Rattle.study_reader.specs.Calls.{bit_of, read_call}
use Rattle.study_reader.specs.declared.faults.Fault.{Fault}
use Rattle.study_reader.specs.declared.faults.FaultAt.{FaultAt}
use Rattle.study_reader.specs.declared.words.Word.{Word}
use Rattle.study_reader.specs.declared.draft.State.{State}
use Rattle.study_reader.specs.declared.items.Numbers.{Numbers}
use Rattle.study_reader.specs.declared.items.Ends.{Ends}
use Rattle.study_reader.specs.declared.items.Change.{Change}
use Rattle.study_reader.specs.declared.items.Change.TheVariants.{Nothing, Wrong, Given, JointWord, OpenSettings, OpenBody, OpenJoint, Call}

-- what may be a fault, at a place; else what is said
unfoldable pub or_fault : Option Fault → ℕ → Change → Change
or_fault (Some fault) at change = Wrong fault at
or_fault None at change = change

unfoldable pub or_fault_there : Option FaultAt → Change → Change
or_fault_there (Some f) change = Wrong f.fault f.at
or_fault_there None change = change

-- the line says this, and ends here
unfoldable pub whole : List ℕ → ℕ → Change → Change
whole text at change = let w = next_word text at in cond (is_empty w) change (Wrong fault_line_end w.start)

-- ---- numbers of the item that is open

-- how a centre is given: by its cosine and sine, or by its angle; and what is no centre
abbrev pub by_pair : ℕ
by_pair = 0

abbrev pub by_angle : ℕ
by_angle = 1

abbrev pub no_center : ℕ
no_center = 2

-- one number, its place in the item and where it stands in the text
abbrev pub given1 : ℕ → Float → ℕ → ℕ → Numbers
given1 place x at center = record { place = place; many = 1; x = x; y = bits 0; x_at = at; y_at = 0; center = center }

-- two numbers, at a place and the next
abbrev pub given2 : ℕ → Float → Float → ℕ → ℕ → ℕ → Numbers
given2 place x y x_at y_at center = record { place = place; many = 2; x = x; y = y; x_at = x_at; y_at = y_at; center = center }

-- the second number x after the first, which the word v gave
unfoldable pub second_number : List ℕ → Word → ℕ → Float → ℕ → Change
second_number text v place x center =
    let w = next_word text v.end in
    let r = number_in text w in
    or_fault (number_fault r) w.start (whole text w.end (Given (given2 place x (value_of r) v.start w.start center)))

-- one number or two, as they stand
unfoldable pub numbers_from : List ℕ → ℕ → ℕ → ℕ → ℕ → Change
numbers_from text at place many center =
    let v = next_word text at in
    let r = number_in text v in
    or_fault (number_fault r) v.start
    (cond (ltb 1 many) (second_number text v place (value_of r) center) (whole text v.end (Given (given1 place (value_of r) v.start center))))

-- the cosine and the sine of an angle
abbrev pub rotated : ℕ → Float → ℕ → Numbers
rotated place angle at = given2 place (rotation_from_angle_of angle).re (rotation_from_angle_of angle).im at at no_center

-- What one number gives. `mass`: its inverse, for x and y. `inverse_mass`: itself, for x and y. `inertia`: its inverse. `angle`, `frame1_angle`,
-- `frame2_angle`: a rotation. `center_angle`: a centre, by its angle.
unfoldable pub given_by : ℕ → Float → ℕ → Numbers
given_by keyword x at =
    cond (eqb keyword mass_keyword) (given2 mass_place (inv_of x) (inv_of x) at at no_center)
    (cond (eqb keyword inverse_mass_keyword) (given2 mass_place x x at at no_center)
    (cond (eqb keyword inertia_keyword) (given1 inertia_place (inv_of x) at no_center)
    (cond (eqb keyword angle_keyword) (rotated pose_place x at)
    (cond (eqb keyword frame1_angle_keyword) (rotated frame1_place x at)
    (cond (eqb keyword frame2_angle_keyword) (rotated frame2_place x at) (given1 center_place x at by_angle))))))

unfoldable pub given_line : List ℕ → ℕ → ℕ → Change
given_line text at keyword =
    let w = next_word text at in
    let r = number_in text w in
    or_fault (number_fault r) w.start (whole text w.end (Given (given_by keyword (value_of r) w.start)))

-- the numbers after the word of a field, after an axis where the field has them for each
unfoldable pub field_numbers : List ℕ → Word → Change
field_numbers text w =
    let f = field_of text w in
    let v = next_word text w.end in
    let axis = axis_of text v in
    cond (eqb f.stride 0) (numbers_from text w.end f.place f.many no_center)
    (cond (ltb 2 axis) (Wrong fault_axis v.start) (numbers_from text v.end (f.place + axis * f.stride) f.many no_center))

-- ---- words of the joint that is open

-- a mask with at most so many further axes, by name
unfoldable pub axes_from : List ℕ → ℕ → ℕ → ℕ → ℕ → ℕ → Change
axes_from text place origin zero mask at = whole text at (JointWord place mask origin)
axes_from text place origin (suc n) mask at =
    let w = next_word text at in
    let axis = axis_of text w in
    cond (is_empty w) (JointWord place mask origin)
    (cond (ltb 2 axis) (Wrong fault_axis w.start) (axes_from text place origin n (bit_or mask (bit_of axis)) w.end))

-- axes by name: one, two or three
unfoldable pub named_mask : List ℕ → ℕ → ℕ → Word → Change
named_mask text at place w = cond (is_empty w) (Wrong fault_axis w.start) (axes_from text place w.start 3 0 at)

-- a mask: a whole number, or axes by name
abbrev pub mask_of : List ℕ → ℕ → ℕ → Word → Option ℕ → Change
mask_of text at place w (Some mask) = whole text w.end (JointWord place mask w.start)
mask_of text at place w None = named_mask text at place w

unfoldable pub mask_line : List ℕ → ℕ → ℕ → Change
mask_line text at place = let w = next_word text at in mask_of text at place w (whole_of text w)

-- an axis, and the model of its motor: 0 is `acceleration`, 1 `force`
unfoldable pub model_line : List ℕ → ℕ → Change
model_line text at =
    let v = next_word text at in
    let w = next_word text v.end in
    let axis = axis_of text v in
    cond (ltb 2 axis) (Wrong fault_axis v.start)
    (cond (is_word text w (ascii "acceleration")) (whole text w.end (JointWord (models_place + axis) 0 w.start))
    (cond (is_word text w (ascii "force")) (whole text w.end (JointWord (models_place + axis) 1 w.start)) (Wrong fault_model w.start)))

-- What follows a word w that gives no plain number: one number, a mask, a motor's model, a centre, or nothing (`enabled`, `disabled_by_attached_body`,
-- `disabled`: the Rust's `JointEnabled` in its order).
unfoldable pub word_line : List ℕ → ℕ → Word → Change
word_line text keyword w =
    cond (ltb keyword lock_keyword) (given_line text w.end keyword)
    (cond (ltb keyword motor_model_keyword) (mask_line text w.end (masks_place + (keyword - lock_keyword)))
    (cond (eqb keyword motor_model_keyword) (model_line text w.end)
    (cond (eqb keyword center_keyword) (numbers_from text w.end center_place 2 by_pair)
    (whole text w.end (JointWord enabled_place (keyword - enabled_keyword) w.start)))))

-- ---- items

-- What is wrong with a name: there is none, it is the world's, it is too long, it has a comma or a quote, a body has it, a joint has it.
unfoldable pub name_fault : List ℕ → List ℕ → State → Word → Option Fault
name_fault text names st w =
    cond (is_empty w) (Some fault_name)
    (cond (is_word text w (ascii "world")) (Some fault_world_name)
    (cond (ltb 64 (w.end - w.start)) (Some fault_long_name)
    (cond (holds_byte text w 0x2c) (Some fault_plain_name)
    (cond (holds_byte text w 0x22) (Some fault_plain_name)
    (cond (is_some (find_body text names st.bodies w)) (Some fault_taken) (cond (is_some (find_joint text names st.joints w)) (Some fault_taken) None))))))

unfoldable pub body_line : List ℕ → List ℕ → State → ℕ → Change
body_line text names st at =
    let w = next_word text at in
    or_fault (name_fault text names st w) w.start
    (cond (ltb st.bodies most_items) (whole text w.end (OpenBody w (st.bodies + 1))) (Wrong fault_bodies_full w.start))

abbrev pub ends : ℕ → ℕ → ℕ → ℕ → Ends
ends body1 body2 at1 at2 = record { body1 = body1; body2 = body2; at1 = at1; at2 = at2 }

-- the joint with the name u between the bodies that the words v and w name
unfoldable pub between : List ℕ → Word → ℕ → Word → Word → Option ℕ → Option ℕ → Change
between text u joints v w None body2 = Wrong fault_no_body v.start
between text u joints v w (Some body1) None = Wrong fault_no_body w.start
between text u joints v w (Some body1) (Some body2) = whole text w.end (OpenJoint u joints (ends body1 body2 v.start w.start))

-- the two bodies of the joint with the name u, of which there are so many with it
unfoldable pub ends_line : List ℕ → List ℕ → ℕ → Word → ℕ → Change
ends_line text names bodies u joints =
    let v = next_word text u.end in
    let w = next_word text v.end in
    between text u joints v w (find_end text names bodies v) (find_end text names bodies w)

unfoldable pub joint_line : List ℕ → List ℕ → State → ℕ → Change
joint_line text names st at =
    let w = next_word text at in
    or_fault (name_fault text names st w) w.start
    (cond (ltb st.joints most_items) (ends_line text names st.bodies w (st.joints + 1)) (Wrong fault_joints_full w.start))

-- ---- lines

-- a line of an item stands before the calls, and where such an item is open
unfoldable pub kind_fault : State → ℕ → Option Fault
kind_fault st kind = cond (eqb st.kind calls_item) (Some fault_after_calls) (cond (eqb st.kind kind) None (Some fault_elsewhere))

-- `mass`, `inertia`, `inverse_mass` and `angle` are a body's words
abbrev pub kind_of : ℕ → ℕ
kind_of keyword = cond (leb keyword angle_keyword) body_item joint_item

unfoldable pub field_line : List ℕ → State → Word → Change
field_line text st w =
    let kind = (field_of text w).kind in
    cond (eqb kind no_item) (Wrong fault_unknown w.start) (or_fault (kind_fault st kind) w.start (field_numbers text w))

unfoldable pub open_line : List ℕ → List ℕ → State → ℕ → Word → Change
open_line text names st keyword w =
    cond (eqb st.kind calls_item) (Wrong fault_after_calls w.start)
    (cond (eqb keyword settings_keyword) (whole text w.end OpenSettings)
    (cond (eqb keyword body_keyword) (body_line text names st w.end) (joint_line text names st w.end)))

-- a line whose first word w is no call's
unfoldable pub item_line : List ℕ → List ℕ → State → Word → Change
item_line text names st w =
    let keyword = item_keyword text w in
    cond (eqb keyword 0) (field_line text st w)
    (cond (leb settings_keyword keyword) (open_line text names st keyword w)
    (or_fault (kind_fault st (kind_of keyword)) w.start (word_line text keyword w)))

unfoldable pub call_line : List ℕ → List ℕ → State → Word → Change
call_line text names st w =
    let l = read_call text names st.bodies st.joints (is_some st.repeat) w in
    or_fault_there l.fault (whole text l.at (Call l.keyword w.start))

-- the line that starts where the reading has come to; a line with no word, blank or a comment, says nothing
unfoldable pub line_of : List ℕ → List ℕ → State → Change
line_of text names st =
    let w = next_word text st.at in
    cond (is_empty w) Nothing (cond (eqb (call_keyword text w) 0) (item_line text names st w) (call_line text names st w))
