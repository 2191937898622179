-- What has been read of a study at some line, and what an item has where its lines give nothing: the Rust's defaults.
use Rattle.std.specs.Prelude.{cond, Option, Some, None, List, [], ◌∷◌, ◌++◌, ℕ, ◌+◌, ◌*◌, eqb, Float, set}
use Rattle.floats.specs.Operators.{bits}
use Rattle.model.specs.Layout.{pose_place, frame1_place, frame2_place, limits_place, limits_width, motors_place, motor_width, softness_place, center_place}
use Rattle.study_reader.specs.Storage.{dt_place, length_unit_place, max_corrective_velocity_place, body_base, joint_base}
use Rattle.study_reader.specs.Keywords.{no_item, body_item, joint_item, calls_item, repeat_keyword, end_keyword}
use Rattle.study_reader.specs.Faults.{fault_at}
use Rattle.study_reader.specs.declared.faults.Fault.{Fault}
use Rattle.study_reader.specs.declared.faults.FaultAt.{FaultAt}
use Rattle.study_reader.specs.declared.draft.State.{State}

-- The state of the reading, with the storage as Storage.antt lays it out.
pub record Draft : Type 0 where
  pub state : State
  pub numbers : List Float
  -- the place in the text that gave each number, and then each word; 0 where none did
  pub origins : List ℕ
  pub words : List ℕ
  pub names : List ℕ

abbrev pub draft : State → List Float → List ℕ → List ℕ → List ℕ → Draft
draft st numbers origins words names = record { state = st; numbers = numbers; origins = origins; words = words; names = names }

abbrev pub with_state : Draft → State → Draft
with_state d st = draft st d.numbers d.origins d.words d.names

-- ---- the state

-- where the next line starts; what is open, and its number; how many bodies, how many joints; the fault; where the calls
-- start; where the `repeat` stands that is open
abbrev pub state_of : ℕ → ℕ → ℕ → ℕ → ℕ → Option FaultAt → ℕ → Option ℕ → State
state_of at kind item bodies joints fault calls repeat = record {
  at = at;
  kind = kind;
  item = item;
  bodies = bodies;
  joints = joints;
  fault = fault;
  calls = calls;
  repeat = repeat;
}

-- before the first line: nothing is open, and no call has been seen
abbrev pub start : State
start = state_of 0 no_item 0 0 0 None 4294967295 None

abbrev pub faulty : State → Fault → ℕ → State
faulty st fault at = state_of st.at st.kind st.item st.bodies st.joints (Some (fault_at fault at)) st.calls st.repeat

abbrev pub reached : State → ℕ → State
reached st at = state_of at st.kind st.item st.bodies st.joints st.fault st.calls st.repeat

-- an item is opened: its kind and number, and how many bodies and joints there are with it
abbrev pub opened : State → ℕ → ℕ → ℕ → ℕ → State
opened st kind item bodies joints = state_of st.at kind item bodies joints st.fault st.calls st.repeat

-- where the calls start: at the first of them
abbrev pub first_call : State → ℕ → ℕ
first_call st at = cond (eqb st.kind calls_item) st.calls at

-- where the `repeat` stands that is open after a call
abbrev pub repeat_after : Option ℕ → ℕ → ℕ → Option ℕ
repeat_after repeat keyword at = cond (eqb keyword repeat_keyword) (Some at) (cond (eqb keyword end_keyword) None repeat)

-- a call was read, whose line starts at a place: no item is open from here on
abbrev pub called : State → ℕ → ℕ → State
called st keyword at =
    state_of st.at calls_item st.item st.bodies st.joints st.fault (first_call st at)
    (repeat_after st.repeat keyword at)

-- where the numbers of the item that is open start
unfoldable pub item_base : State → ℕ
item_base st =
    cond (eqb st.kind body_item) (body_base st.item)
    (cond (eqb st.kind joint_item) (joint_base st.item) 0)

-- ---- defaults; what is not listed is 0

pub record Default : Type 0 where
  pub place : ℕ
  pub value : Float

abbrev pub default : ℕ → Float → Default
default place x = record { place = place; value = x }

-- one after the other, in the numbers of the item that starts at a base
unfoldable pub puts : ℕ → List Default → List Float → List Float
puts base [] numbers = numbers
puts base (d ∷ ds) numbers = puts base ds (set numbers (base + d.place) d.value)

abbrev pub one : Float
one = bits 0x3F80_0000

-- MAX, the largest number, and its negative
abbrev pub most : Float
most = bits 0x7F7F_FFFF

abbrev pub least : Float
least = bits 0xFF7F_FFFF

-- dt, 1/60; length_unit, 1; normalized_max_corrective_velocity, 3
abbrev pub settings_defaults : List Default
settings_defaults = default dt_place (bits 0x3C88_8889) ∷ default length_unit_place one ∷ default max_corrective_velocity_place (bits 0x4040_0000) ∷ []

-- the cosine of the rotation
abbrev pub body_defaults : List Default
body_defaults = default pose_place one ∷ []

-- the two ends of an axis, and its motor's maximum force
abbrev pub end_defaults : ℕ → List Default
end_defaults axis = default (limits_place + axis * limits_width) least ∷ default (limits_place + axis * limits_width + 1) most ∷ []

abbrev pub force_default : ℕ → Default
force_default axis = default (motors_place + axis * motor_width + 4) most

-- of x, y and the angle
abbrev pub limit_defaults : List Default
limit_defaults = end_defaults 0 ++ (end_defaults 1 ++ end_defaults 2)

abbrev pub force_defaults : List Default
force_defaults = force_default 0 ∷ force_default 1 ∷ force_default 2 ∷ []

-- and the cosines of the two frames; softness, 1000000 and 1; the centre's cosine
abbrev pub joint_defaults : List Default
joint_defaults =
    limit_defaults
    ++ (force_defaults
    ++ (default frame1_place one ∷ default frame2_place one ∷ default softness_place (bits 0x4974_2400) ∷ default (softness_place + 1) one ∷ default center_place one ∷ []))
