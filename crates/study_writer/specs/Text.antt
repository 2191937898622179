-- The text of a model: a study (docs/STUDY.md) in one spelling, with no call. Every number stands as its f32 bits, so that none is rounded; bodies
-- are named b0, b1, .., joints j0, j1, ...
use Rattle.std.specs.Prelude.{ℕ, zero, suc, ◌+◌, ◌*◌, cond, List, [], ◌∷◌, ◌++◌, eqb, Float}
use Prim.Native.String.{String}
use Rattle.std.specs.Float.{binary32}
use Rattle.std.specs.Float.Ieee.{to_bits}
use Rattle.texts.specs.Ascii.{ascii, LF, SPACE}
use Rattle.texts.specs.Digits.{decimal}
use Rattle.decimals.specs.Text.{bits_text}
use Rattle.rows.specs.declared.integration_parameters.IntegrationParameters.{IntegrationParameters}
use Rattle.model.specs.Layout.{body_width, pose_place, inertia_place, mass_place, velocity_place, words_width, body1_place, body2_place, masks_place, models_place, enabled_place, center_choice_place, numbers_width, frame1_place, frame2_place, limits_place, limits_width, motors_place, motor_width, softness_place, dofs_place, center_place}
use Rattle.model.specs.Records.{num, word}
use Rattle.model.specs.Store.{world}
use Rattle.multibody.specs.Model.{Model}
use Rattle.multibody.specs.Counts.{body_count, joint_count}
use Rattle.model.specs.Planar.{plane}

-- ---- lines of words

-- a line's words
abbrev pub Line : Type 0
Line = List (List ℕ)

-- the words after a line's first, each after a blank, and the line's end; in front of a text
unfoldable pub words_onto : Line → List ℕ → List ℕ
words_onto [] text = LF ∷ text
words_onto (w ∷ ws) text = SPACE ∷ (w ++ words_onto ws text)

unfoldable pub line_onto : Line → List ℕ → List ℕ
line_onto [] text = LF ∷ text
line_onto (w ∷ ws) text = w ++ words_onto ws text

unfoldable pub lines_text : List Line → List ℕ
lines_text [] = []
lines_text (l ∷ ls) = line_onto l (lines_text ls)

-- ---- numbers

unfoldable pub number_word : Float → List ℕ
number_word x = bits_text (to_bits binary32 x)

-- a line of one number, of two; and the same of an axis
abbrev pub one : String → Float → Line
one w x = ascii w ∷ number_word x ∷ []

abbrev pub two : String → Float → Float → Line
two w x y = ascii w ∷ number_word x ∷ number_word y ∷ []

abbrev pub one_of : String → String → Float → Line
one_of w axis x = ascii w ∷ ascii axis ∷ number_word x ∷ []

abbrev pub two_of : String → String → Float → Float → Line
two_of w axis x y = ascii w ∷ ascii axis ∷ number_word x ∷ number_word y ∷ []

-- ---- items one after the other: so many from item i on, of which each has its lines

unfoldable pub items_from : (ℕ → List Line) → ℕ → ℕ → List Line
items_from lines i zero = []
items_from lines i (suc n) = lines i ++ items_from lines (i + 1) n

-- ---- settings and bodies

unfoldable pub settings_lines : IntegrationParameters → List Line
settings_lines p =
    (ascii "settings" ∷ [])
    ∷ one "dt" p.dt
    ∷ one "length_unit" p.length_unit
    ∷ one "normalized_max_corrective_velocity" p.normalized_max_corrective_velocity
    ∷ []

unfoldable pub body_word : ℕ → List ℕ
body_word i = ascii "b" ++ decimal i

-- body i, whose number c is f c
unfoldable pub body_lines : ℕ → (ℕ → Float) → List Line
body_lines i f =
    (ascii "body" ∷ body_word i ∷ [])
    ∷ two "rotation" (f pose_place) (f (pose_place + 1))
    ∷ two "position" (f (pose_place + 2)) (f (pose_place + 3))
    ∷ one "inverse_inertia" (f inertia_place)
    ∷ two "inverse_masses" (f mass_place) (f (mass_place + 1))
    ∷ two "velocity" (f velocity_place) (f (velocity_place + 1))
    ∷ one "angular_velocity" (f (velocity_place + 2))
    ∷ []

-- so many bodies from body i on
abbrev pub bodies_from : List Float → ℕ → ℕ → List Line
bodies_from bodies = items_from (λ i. body_lines i (num body_width bodies i))

-- ---- joints

unfoldable pub joint_word : ℕ → List ℕ
joint_word j = ascii "j" ++ decimal j

-- a joint's body
unfoldable pub end_word : ℕ → List ℕ
end_word i = cond (eqb i world) (ascii "world") (body_word i)

-- 0 is acceleration based, and every other number force based
unfoldable pub model_word : ℕ → List ℕ
model_word m = cond (eqb m 0) (ascii "acceleration") (ascii "force")

-- the Rust's `JointEnabled` in its order; every other number is `Disabled`
unfoldable pub enabled_word : ℕ → List ℕ
enabled_word e = cond (eqb e 0) (ascii "enabled") (cond (eqb e 1) (ascii "disabled_by_attached_body") (ascii "disabled"))

-- 0 is cosine and sine, and every other number an angle
unfoldable pub center_line : ℕ → Float → Float → Line
center_line choice x y = cond (eqb choice 0) (two "center" x y) (one "center_angle" x)

-- the bodies, masks and words of joint j, whose word c is g c
abbrev pub joint_head : ℕ → (ℕ → ℕ) → List Line
joint_head j g =
    (ascii "joint" ∷ joint_word j ∷ end_word (g body1_place) ∷ end_word (g body2_place) ∷ [])
    ∷ (ascii "lock" ∷ decimal (g masks_place) ∷ [])
    ∷ (ascii "limit" ∷ decimal (g (masks_place + 1)) ∷ [])
    ∷ (ascii "motor" ∷ decimal (g (masks_place + 2)) ∷ [])
    ∷ (ascii "couple" ∷ decimal (g (masks_place + 3)) ∷ [])
    ∷ (ascii "motor_model" ∷ ascii "x" ∷ model_word (g models_place) ∷ [])
    ∷ (ascii "motor_model" ∷ ascii "y" ∷ model_word (g (models_place + 1)) ∷ [])
    ∷ (ascii "motor_model" ∷ ascii "angle" ∷ model_word (g (models_place + 2)) ∷ [])
    ∷ (enabled_word (g enabled_place) ∷ [])
    ∷ []

-- the frames of a joint whose number c is f c
abbrev pub frame_lines : (ℕ → Float) → List Line
frame_lines f =
    two "frame1_rotation" (f frame1_place) (f (frame1_place + 1))
    ∷ two "frame1" (f (frame1_place + 2)) (f (frame1_place + 3))
    ∷ two "frame2_rotation" (f frame2_place) (f (frame2_place + 1))
    ∷ two "frame2" (f (frame2_place + 2)) (f (frame2_place + 3))
    ∷ []

-- the limits of an axis, and its motor, whose numbers start at number o
abbrev pub limits_lines : String → (ℕ → Float) → ℕ → List Line
limits_lines axis f o = two_of "limits" axis (f o) (f (o + 1)) ∷ one_of "limit_impulse" axis (f (o + 2)) ∷ []

abbrev pub motor_lines : String → (ℕ → Float) → ℕ → List Line
motor_lines axis f o =
    one_of "target_velocity" axis (f o)
    ∷ one_of "target_position" axis (f (o + 1))
    ∷ one_of "stiffness" axis (f (o + 2))
    ∷ one_of "damping" axis (f (o + 3))
    ∷ one_of "max_force" axis (f (o + 4))
    ∷ one_of "motor_impulse" axis (f (o + 5))
    ∷ []

-- the same of the three axes
abbrev pub all_limits_lines : (ℕ → Float) → List Line
all_limits_lines f =
    limits_lines "x" f limits_place
    ++ (limits_lines "y" f (limits_place + limits_width) ++ limits_lines "angle" f (limits_place + 2 * limits_width))

abbrev pub all_motors_lines : (ℕ → Float) → List Line
all_motors_lines f =
    motor_lines "x" f motors_place
    ++ (motor_lines "y" f (motors_place + motor_width) ++ motor_lines "angle" f (motors_place + 2 * motor_width))

-- softness, stored impulses and the centre
abbrev pub softness_lines : (ℕ → Float) → ℕ → List Line
softness_lines f choice =
    one "natural_frequency" (f softness_place)
    ∷ one "damping_ratio" (f (softness_place + 1))
    ∷ one_of "impulse" "x" (f dofs_place)
    ∷ one_of "impulse" "y" (f (dofs_place + 1))
    ∷ one_of "impulse" "angle" (f (dofs_place + 2))
    ∷ center_line choice (f center_place) (f (center_place + 1))
    ∷ []

-- joint j
unfoldable pub joint_lines : ℕ → (ℕ → ℕ) → (ℕ → Float) → List Line
joint_lines j g f = joint_head j g ++ (frame_lines f ++ (all_limits_lines f ++ (all_motors_lines f ++ softness_lines f (g center_choice_place))))

-- so many joints from joint j on
abbrev pub joints_from : List ℕ → List Float → ℕ → ℕ → List Line
joints_from words numbers = items_from (λ j. joint_lines j (word words_width words j) (num numbers_width numbers j))

-- ---- the text

unfoldable pub study_lines : Model → List Line
study_lines m =
    settings_lines m.params
    ++ (bodies_from m.bodies 0 (body_count plane m.bodies) ++ joints_from m.words m.numbers 0 (joint_count plane m.words m.numbers))

unfoldable pub study_text : Model → List ℕ
study_text m = lines_text (study_lines m)
