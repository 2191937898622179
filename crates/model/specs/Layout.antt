-- Bodies, joints and rows in flat storage: how many numbers or words a record has, and where each of its fields stands.
use Rattle.std.specs.Prelude.{ℕ, ◌+◌, ◌*◌}

-- ---- a row: the numbers of the Rust's fields, in their order

abbrev pub row_width : ℕ
row_width = 18

-- ---- a body: pose (re, im, x, y), inverse inertia, inverse masses (x, y), velocity (x, y, angular)

abbrev pub body_width : ℕ
body_width = 10

abbrev pub pose_place : ℕ
pose_place = 0

abbrev pub inertia_place : ℕ
inertia_place = 4

abbrev pub mass_place : ℕ
mass_place = 5

abbrev pub velocity_place : ℕ
velocity_place = 7

-- ---- a joint's words: two bodies, four masks, three motor models, `JointEnabled`, how its centre is typed; and its first row, which is none of its contents

abbrev pub words_width : ℕ
words_width = 12

abbrev pub body1_place : ℕ
body1_place = 0

abbrev pub body2_place : ℕ
body2_place = 1

abbrev pub masks_place : ℕ
masks_place = 2

abbrev pub models_place : ℕ
models_place = 6

abbrev pub enabled_place : ℕ
enabled_place = 9

abbrev pub center_choice_place : ℕ
center_choice_place = 10

abbrev pub first_row_place : ℕ
first_row_place = 11

-- ---- a joint's numbers: two frames, three limits (min, max, impulse), three motors, softness (natural frequency, damping ratio), three Dof impulses, centre (cosine, sine; or an angle, in the cosine's place)

abbrev pub numbers_width : ℕ
numbers_width = 42

abbrev pub frame1_place : ℕ
frame1_place = 0

abbrev pub frame2_place : ℕ
frame2_place = 4

abbrev pub limits_place : ℕ
limits_place = 8

abbrev pub limits_width : ℕ
limits_width = 3

abbrev pub motors_place : ℕ
motors_place = 17

abbrev pub motor_width : ℕ
motor_width = 6

abbrev pub softness_place : ℕ
softness_place = 35

abbrev pub dofs_place : ℕ
dofs_place = 37

abbrev pub center_place : ℕ
center_place = 40

-- where an axis's target velocity stands: its motor's first number
abbrev pub target_place : ℕ → ℕ
target_place i = motors_place + i * motor_width

-- where an axis's stored impulses stand among the numbers of its limits and of its motor
abbrev pub limit_seed : ℕ
limit_seed = 2

abbrev pub motor_seed : ℕ
motor_seed = 5
