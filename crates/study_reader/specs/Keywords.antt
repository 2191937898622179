-- The words that start lines, by tables: the first line of a table with the word decides.
use Rattle.std.specs.Prelude.{cond, List, [], ◌∷◌, ◌++◌, ℕ, ◌+◌}
use Prim.Native.String.{String}
use Rattle.texts.specs.Ascii.{ascii}
use Rattle.model.specs.Layout.{pose_place, inertia_place, mass_place, velocity_place, frame1_place, frame2_place, limits_place, limits_width, limit_seed, motors_place, motor_width, motor_seed, softness_place, dofs_place}
use Rattle.study_reader.specs.Words.{same_bytes, bytes_of}
use Rattle.study_reader.specs.Storage.{dt_place, length_unit_place, max_corrective_velocity_place}
use Rattle.study_reader.specs.declared.words.Word.{Word}
use Rattle.study_reader.specs.declared.fields.Field.{Field}

-- a line of a table: a word and what it means
pub record Named (A : Type 0) : Type 0 where
  pub word : List ℕ
  pub means : A

abbrev pub named : {A : Type 0} → String → A → Named A
named w a = record { word = ascii w; means = a }

-- what bytes mean by a table, and the other where no line has them
unfoldable pub meaning : {A : Type 0} → List (Named A) → A → List ℕ → A
meaning [] other bytes = other
meaning (l ∷ ls) other bytes = cond (same_bytes bytes l.word) l.means (meaning ls other bytes)

-- ---- axes, and 3 for no axis

abbrev pub axis_words : List (Named ℕ)
axis_words = named "x" 0 ∷ named "y" 1 ∷ named "angle" 2 ∷ []

abbrev pub axis_of : List ℕ → Word → ℕ
axis_of text w = meaning axis_words 3 (bytes_of text w)

-- ---- what a line belongs to

abbrev pub no_item : ℕ
no_item = 0

abbrev pub settings_item : ℕ
settings_item = 1

abbrev pub body_item : ℕ
body_item = 2

abbrev pub joint_item : ℕ
joint_item = 3

abbrev pub calls_item : ℕ
calls_item = 4

-- ---- plain numbers: how many of them stand from a place of the item on; where the stride is not 0 an axis comes first, and its number times the stride
-- is added to the place

abbrev pub field : ℕ → ℕ → ℕ → ℕ → Field
field kind place many stride = record { kind = kind; place = place; many = many; stride = stride }

-- of no item
abbrev pub no_field : Field
no_field = field no_item 0 0 0

abbrev pub settings_fields : List (Named Field)
settings_fields =
    named "dt" (field settings_item dt_place 1 0) ∷
    named "length_unit" (field settings_item length_unit_place 1 0) ∷
    named "normalized_max_corrective_velocity" (field settings_item max_corrective_velocity_place 1 0) ∷
    []

abbrev pub body_fields : List (Named Field)
body_fields =
    named "rotation" (field body_item pose_place 2 0) ∷
    named "position" (field body_item (pose_place + 2) 2 0) ∷
    named "inverse_inertia" (field body_item inertia_place 1 0) ∷
    named "inverse_masses" (field body_item mass_place 2 0) ∷
    named "velocity" (field body_item velocity_place 2 0) ∷
    named "angular_velocity" (field body_item (velocity_place + 2) 1 0) ∷
    []

abbrev pub frame_fields : List (Named Field)
frame_fields =
    named "frame1_rotation" (field joint_item frame1_place 2 0) ∷
    named "frame1" (field joint_item (frame1_place + 2) 2 0) ∷
    named "frame2_rotation" (field joint_item frame2_place 2 0) ∷
    named "frame2" (field joint_item (frame2_place + 2) 2 0) ∷
    named "limits" (field joint_item limits_place 2 limits_width) ∷
    named "limit_impulse" (field joint_item (limits_place + limit_seed) 1 limits_width) ∷
    []

abbrev pub motor_fields : List (Named Field)
motor_fields =
    named "target_velocity" (field joint_item motors_place 1 motor_width) ∷
    named "target_position" (field joint_item (motors_place + 1) 1 motor_width) ∷
    named "stiffness" (field joint_item (motors_place + 2) 1 motor_width) ∷
    named "damping" (field joint_item (motors_place + 3) 1 motor_width) ∷
    named "max_force" (field joint_item (motors_place + 4) 1 motor_width) ∷
    named "motor_impulse" (field joint_item (motors_place + motor_seed) 1 motor_width) ∷
    []

abbrev pub softness_fields : List (Named Field)
softness_fields =
    named "natural_frequency" (field joint_item softness_place 1 0) ∷
    named "damping_ratio" (field joint_item (softness_place + 1) 1 0) ∷
    named "impulse" (field joint_item dofs_place 1 1) ∷
    []

abbrev pub field_of : List ℕ → Word → Field
field_of text w = meaning (settings_fields ++ (body_fields ++ (frame_fields ++ (motor_fields ++ softness_fields)))) no_field (bytes_of text w)

-- ---- items, and what is no plain number; 0 is no keyword

abbrev pub mass_keyword : ℕ
mass_keyword = 1

abbrev pub inertia_keyword : ℕ
inertia_keyword = 2

abbrev pub inverse_mass_keyword : ℕ
inverse_mass_keyword = 3

abbrev pub angle_keyword : ℕ
angle_keyword = 4

abbrev pub frame1_angle_keyword : ℕ
frame1_angle_keyword = 5

abbrev pub frame2_angle_keyword : ℕ
frame2_angle_keyword = 6

abbrev pub center_angle_keyword : ℕ
center_angle_keyword = 7

abbrev pub lock_keyword : ℕ
lock_keyword = 8

abbrev pub limit_keyword : ℕ
limit_keyword = 9

abbrev pub motor_keyword : ℕ
motor_keyword = 10

abbrev pub couple_keyword : ℕ
couple_keyword = 11

abbrev pub motor_model_keyword : ℕ
motor_model_keyword = 12

abbrev pub enabled_keyword : ℕ
enabled_keyword = 13

abbrev pub disabled_by_attached_body_keyword : ℕ
disabled_by_attached_body_keyword = 14

abbrev pub disabled_keyword : ℕ
disabled_keyword = 15

abbrev pub center_keyword : ℕ
center_keyword = 16

abbrev pub settings_keyword : ℕ
settings_keyword = 20

abbrev pub body_keyword : ℕ
body_keyword = 21

abbrev pub joint_keyword : ℕ
joint_keyword = 22

abbrev pub item_words : List (Named ℕ)
item_words =
    named "settings" settings_keyword ∷
    named "body" body_keyword ∷
    named "joint" joint_keyword ∷
    []

abbrev pub body_words : List (Named ℕ)
body_words =
    named "mass" mass_keyword ∷
    named "inertia" inertia_keyword ∷
    named "inverse_mass" inverse_mass_keyword ∷
    named "angle" angle_keyword ∷
    []

abbrev pub mask_words : List (Named ℕ)
mask_words =
    named "lock" lock_keyword ∷
    named "limit" limit_keyword ∷
    named "motor" motor_keyword ∷
    named "couple" couple_keyword ∷
    []

abbrev pub joint_words : List (Named ℕ)
joint_words =
    named "frame1_angle" frame1_angle_keyword ∷
    named "frame2_angle" frame2_angle_keyword ∷
    named "center_angle" center_angle_keyword ∷
    named "center" center_keyword ∷
    named "motor_model" motor_model_keyword ∷
    named "enabled" enabled_keyword ∷
    named "disabled_by_attached_body" disabled_by_attached_body_keyword ∷
    named "disabled" disabled_keyword ∷
    []

abbrev pub item_keyword : List ℕ → Word → ℕ
item_keyword text w = meaning (item_words ++ (body_words ++ (mask_words ++ joint_words))) 0 (bytes_of text w)

-- ---- calls; 0 is no keyword

abbrev pub load_keyword : ℕ
load_keyword = 31

abbrev pub place_keyword : ℕ
place_keyword = 32

abbrev pub build_keyword : ℕ
build_keyword = 33

abbrev pub warm_start_keyword : ℕ
warm_start_keyword = 34

abbrev pub sweep_keyword : ℕ
sweep_keyword = 35

abbrev pub remove_bias_keyword : ℕ
remove_bias_keyword = 36

abbrev pub write_back_keyword : ℕ
write_back_keyword = 37

abbrev pub read_rows_keyword : ℕ
read_rows_keyword = 38

abbrev pub read_velocity_keyword : ℕ
read_velocity_keyword = 39

abbrev pub set_targets_keyword : ℕ
set_targets_keyword = 40

abbrev pub repeat_keyword : ℕ
repeat_keyword = 41

abbrev pub end_keyword : ℕ
end_keyword = 42

abbrev pub table_keyword : ℕ
table_keyword = 43

abbrev pub settle_keyword : ℕ
settle_keyword = 44

abbrev pub masks_keyword : ℕ
masks_keyword = 45

abbrev pub frame_keyword : ℕ
frame_keyword = 46

abbrev pub call_words : List (Named ℕ)
call_words =
    named "load" load_keyword ∷
    named "place" place_keyword ∷
    named "build" build_keyword ∷
    named "warm_start" warm_start_keyword ∷
    named "sweep" sweep_keyword ∷
    named "remove_bias" remove_bias_keyword ∷
    named "write_back" write_back_keyword ∷
    []

abbrev pub read_words : List (Named ℕ)
read_words =
    named "read_rows" read_rows_keyword ∷
    named "read_velocity" read_velocity_keyword ∷
    named "set_targets" set_targets_keyword ∷
    named "repeat" repeat_keyword ∷
    named "end" end_keyword ∷
    named "table" table_keyword ∷
    named "settle" settle_keyword ∷
    named "masks" masks_keyword ∷
    named "frame" frame_keyword ∷
    []

abbrev pub call_keyword : List ℕ → Word → ℕ
call_keyword text w = meaning (call_words ++ read_words) 0 (bytes_of text w)
