-- The study that a text describes: what each line says is written, line after line, up to the first fault; a `repeat` that is open at the end is a fault; and a centre
-- that is left out is the middle of the angular limit.
use Rattle.std.specs.Prelude.{Bool, cond, Option, Some, None, is_some, not, ◌&&◌, List, ℕ, zero, suc, ◌+◌, ◌*◌, eqb, ltb, leb, Float, length, get_or, set, drop, replicate}
use Rattle.std.specs.Float.{nan}
use Rattle.std.specs.Float.Ieee.{lt}
use Rattle.floats.specs.Operators.{bits, ◌⊕◌, ◌⊖◌, ◌⊗◌}
use Rattle.floats.specs.Constants.{half, pi}
use Rattle.rows.specs.declared.integration_parameters.IntegrationParameters.{IntegrationParameters}
use Rattle.model.specs.Layout.{body1_place, body2_place, center_choice_place, limits_place, limits_width, center_place}
use Rattle.study_reader.specs.Words.{next_line}
use Rattle.study_reader.specs.Faults.{fault_open_repeat}
use Rattle.study_reader.specs.Storage.{settings_width, dt_place, length_unit_place, max_corrective_velocity_place, joints_place, numbers_size, words_size, joint_names, names_size, body_base, joint_base, words_base, kept}
use Rattle.study_reader.specs.Keywords.{settings_item, body_item, joint_item}
use Rattle.study_reader.specs.Draft.{Draft, draft, with_state, start, faulty, reached, opened, called, item_base, puts, settings_defaults, body_defaults, joint_defaults}
use Rattle.study_reader.specs.Items.{by_angle, no_center, line_of}
use Rattle.study_reader.specs.declared.words.Word.{Word}
use Rattle.study_reader.specs.declared.draft.State.{State}
use Rattle.study_reader.specs.declared.items.Numbers.{Numbers}
use Rattle.study_reader.specs.declared.items.Ends.{Ends}
use Rattle.study_reader.specs.declared.items.Change.{Change}
use Rattle.study_reader.specs.declared.items.Change.TheVariants.{Nothing, Wrong, Given, JointWord, OpenSettings, OpenBody, OpenJoint, Call}

-- ---- what a line says, written

-- the second of two entries
unfoldable pub second : {A : Type 0} → ℕ → List A → ℕ → A → List A
second many s place y = cond (ltb 1 many) (set s place y) s

-- one or two numbers of the item that is open, and the places that gave them
unfoldable pub numbers_with : State → Numbers → List Float → List Float
numbers_with st n numbers = let place = item_base st + n.place in second n.many (set numbers place n.x) (place + 1) n.y

unfoldable pub origins_with : State → Numbers → List ℕ → List ℕ
origins_with st n origins = let place = item_base st + n.place in second n.many (set origins place (kept n.x_at)) (place + 1) (kept n.y_at)

-- how a centre is given, where the numbers are a centre's
unfoldable pub center_with : ℕ → ℕ → List ℕ → List ℕ
center_with item center words = cond (ltb center no_center) (set words (words_base item + center_choice_place) center) words

-- a word of a joint, and the place that gave it
unfoldable pub word_with : ℕ → ℕ → ℕ → List ℕ → List ℕ
word_with item place value words = set words (words_base item + place) value

unfoldable pub origin_with : ℕ → ℕ → ℕ → List ℕ → List ℕ
origin_with item place at origins = set origins (numbers_size + (words_base item + place)) (kept at)

-- name i of those that start at a place
unfoldable pub name_with : ℕ → ℕ → Word → List ℕ → List ℕ
name_with from i w names = set (set names (from + 2 * i) (kept w.start)) (from + 2 * i + 1) (kept w.end)

-- a body is opened: its name, and its defaults
unfoldable pub open_body : Word → ℕ → Draft → Draft
open_body w bodies d =
    let i = d.state.bodies in
    draft (opened d.state body_item i bodies d.state.joints) (puts (body_base i) body_defaults d.numbers) d.origins d.words
    (name_with 0 i w d.names)

-- a joint is opened: its name, its defaults, and its two bodies
unfoldable pub open_joint : Word → ℕ → Ends → Draft → Draft
open_joint w joints ends d =
    let j = d.state.joints in
    draft (opened d.state joint_item j d.state.bodies joints) (puts (joint_base j) joint_defaults d.numbers)
    (origin_with j body2_place ends.at2 (origin_with j body1_place ends.at1 d.origins))
    (word_with j body2_place ends.body2 (word_with j body1_place ends.body1 d.words))
    (name_with joint_names j w d.names)

unfoldable pub applied : Change → Draft → Draft
applied Nothing d = d
applied (Wrong fault at) d = with_state d (faulty d.state fault at)
applied (Given n) d =
    draft d.state (numbers_with d.state n d.numbers) (origins_with d.state n d.origins)
    (center_with d.state.item n.center d.words) d.names
applied (JointWord place value at) d =
    draft d.state d.numbers (origin_with d.state.item place at d.origins) (word_with d.state.item place value d.words) d.names
applied OpenSettings d = with_state d (opened d.state settings_item d.state.item d.state.bodies d.state.joints)
applied (OpenBody w bodies) d = open_body w bodies d
applied (OpenJoint w joints ends) d = open_joint w joints ends d
applied (Call keyword at) d = with_state d (called d.state keyword at)

-- ---- line after line

-- the next line is read, unless there is a fault or no line
unfoldable pub line_read : List ℕ → Draft → Draft
line_read text d =
    let after = applied (line_of text d.names d.state) d in
    cond (is_some d.state.fault) d
    (cond (leb (length text) d.state.at) d (with_state after (reached after.state (next_line text d.state.at))))

-- at most so many lines
unfoldable pub lines_read : List ℕ → ℕ → Draft → Draft
lines_read text zero d = d
lines_read text (suc n) d = lines_read text n (line_read text d)

-- a `repeat` that is open at the end is a fault
unfoldable pub left_open : Option ℕ → State → State
left_open (Some at) st = faulty st fault_open_repeat at
left_open None st = st

unfoldable pub ended : State → State
ended st = cond (is_some st.fault) st (left_open st.repeat st)

-- ---- a centre that is left out

-- the two ends of the angular limit
abbrev pub angular_min : ℕ
angular_min = limits_place + 2 * limits_width

abbrev pub angular_max : ℕ
angular_max = angular_min + 1

-- no centre is given, the angular limit is, and its two ends are less than a turn apart
unfoldable pub is_left_out : List Float → List ℕ → ℕ → Bool
is_left_out numbers origins base =
    eqb (get_or origins (base + center_place) 0) 0
    && (not (eqb (get_or origins (base + angular_min) 0) 0) && lt ((get_or numbers (base + angular_max) (bits 0) ⊖ get_or numbers (base + angular_min) (bits 0)) ⊗ half) pi)

-- the middle of the two ends
unfoldable pub middle : List Float → ℕ → Float
middle numbers base = (get_or numbers (base + angular_min) (bits 0) ⊕ get_or numbers (base + angular_max) (bits 0)) ⊗ half

unfoldable pub center_joint : ℕ → Draft → Draft
center_joint j d =
    let base = joint_base j in
    cond (is_left_out d.numbers d.origins base)
    (draft d.state (set d.numbers (base + center_place) (middle d.numbers base)) d.origins (set d.words (words_base j + center_choice_place) by_angle)
    d.names) d

-- so many joints from joint j on
unfoldable pub center_joints : ℕ → ℕ → Draft → Draft
center_joints j zero d = d
center_joints j (suc n) d = center_joints (j + 1) n (center_joint j d)

-- ---- the study

-- The study that a text describes, read into storage that is lent: at most as many lines as bytes.
unfoldable pub read_study : List ℕ → List Float → List ℕ → List ℕ → List ℕ → Draft
read_study text numbers origins words names =
    let d = lines_read text (length text) (draft start (puts 0 settings_defaults numbers) origins words names) in
    let st = ended d.state in
    center_joints 0 st.joints (with_state d st)

-- The study that a text describes: in storage of its full size, with nothing in it before.
unfoldable pub study_of : List ℕ → Draft
study_of text = read_study text (replicate numbers_size (bits 0)) (replicate (numbers_size + words_size) 0) (replicate words_size 0) (replicate names_size 0)

-- ---- what was read, as a model has it

-- the settings, the bodies' numbers and the joints' numbers; the joints' words are the study's
abbrev pub settings_read : Draft → IntegrationParameters
settings_read d = record {
  dt = get_or d.numbers dt_place nan;
  length_unit = get_or d.numbers length_unit_place nan;
  normalized_max_corrective_velocity = get_or d.numbers max_corrective_velocity_place nan;
}

abbrev pub bodies_read : Draft → List Float
bodies_read d = drop settings_width d.numbers

abbrev pub joints_read : Draft → List Float
joints_read d = drop joints_place d.numbers
