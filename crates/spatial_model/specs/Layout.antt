-- Bodies, joints and rows in flat storage: how many numbers or words a record has, and where each of its fields stands.
use Rattle.std.specs.Prelude.{ℕ}

-- ---- a row: the numbers of the Rust's fields, in their order

abbrev pub row_width : ℕ
row_width = 29

-- ---- a body: pose (rotation x, y, z, w, translation x, y, z), inverse inertia (m11, m12, m13, m22, m23, m33), inverse masses (x, y, z), velocity (linear x, y, z, angular x, y, z)

abbrev pub body_width : ℕ
body_width = 22

abbrev pub pose_place : ℕ
pose_place = 0

abbrev pub inertia_place : ℕ
inertia_place = 7

abbrev pub mass_place : ℕ
mass_place = 13

abbrev pub velocity_place : ℕ
velocity_place = 16

-- ---- a joint's words: two bodies, four masks, the motor models of the linear axes, `JointEnabled`

abbrev pub words_width : ℕ
words_width = 10

abbrev pub body1_place : ℕ
body1_place = 0

abbrev pub body2_place : ℕ
body2_place = 1

abbrev pub masks_place : ℕ
masks_place = 2

abbrev pub models_place : ℕ
models_place = 6

abbrev pub enabled_place : ℕ
enabled_place = 9

-- ---- a joint's numbers: two frames, the limits of the linear axes (min, max, impulse), their motors, softness (natural frequency, damping ratio), six Dof impulses

abbrev pub numbers_width : ℕ
numbers_width = 49

abbrev pub frame1_place : ℕ
frame1_place = 0

abbrev pub frame2_place : ℕ
frame2_place = 7

abbrev pub limits_place : ℕ
limits_place = 14

abbrev pub limits_width : ℕ
limits_width = 3

abbrev pub motors_place : ℕ
motors_place = 23

abbrev pub motor_width : ℕ
motor_width = 6

abbrev pub softness_place : ℕ
softness_place = 41

abbrev pub dofs_place : ℕ
dofs_place = 43

-- where an axis's stored impulses stand among the numbers of its limits and of its motor
abbrev pub limit_seed : ℕ
limit_seed = 2

abbrev pub motor_seed : ℕ
motor_seed = 5
