-- Where a model breaks rule 3, 4, 5, 6, 7 or 12. What such a rule asks of a model is tests of single words and numbers, in order; the first that fails is the place. The other rules are broken by a count or by the call.
use Rattle.std.specs.Prelude.{ℕ, zero, suc, ◌+◌, Bool, not, cond, Option, Some, None, List, [], ◌∷◌, ◌++◌, eqb, get_or, Float}
use Rattle.std.specs.Float.Ieee.{lt}
use Rattle.floats.specs.Operators.{bits}
use Rattle.floats.specs.Scalar.{is_finite}
use Rattle.rows.specs.declared.integration_parameters.IntegrationParameters.{IntegrationParameters}
use Rattle.multibody.specs.Rules.{at_most}
use Rattle.multibody.specs.Model.{Model}
use Rattle.multibody.specs.Finite.{passes}
use Rattle.multibody.specs.Finite.Asks.{free}
use Rattle.multibody.specs.Counts.{body_count, joint_count}
use Rattle.multibody.specs.Refusals.{present_or_world, bodies_apart}
use Rattle.model.specs.declared.refusal_place.Place.{Place}
use Rattle.model.specs.declared.refusal_place.Place.TheVariants.{Setting, BodyNumber, JointWord, JointNumber}
use Rattle.model.specs.Layout.{body_width, words_width, body1_place, body2_place, masks_place, numbers_width, center_place}
use Rattle.model.specs.Records.{num, word}
use Rattle.model.specs.Store.{body1_at, body2_at}
use Rattle.model.specs.Refusals.{all_axes, four_masks, body_asks, center_fits}
use Rattle.model.specs.Planar.{plane, planar}

-- a test of one word or number, with its place
pub record Test : Type 0 where
  pub holds : Bool
  pub place : Place

abbrev pub at : Place → Bool → List Test
at p t = record { holds = t; place = p } ∷ []

-- the place of the first test that fails
unfoldable pub broken : List Test → Option Place
broken [] = None
broken (t ∷ ts) = cond t.holds (broken ts) (Some t.place)

-- the tests of n words, numbers, bodies or joints from i on, one after the other
unfoldable pub each : ℕ → ℕ → (ℕ → List Test) → List Test
each i zero f = []
each i (suc n) f = f i ++ each (i + 1) n f

-- ---- joint j: its masks (rule 3), its two bodies (4), that they differ, told of the first (5), its numbers (6), its typed angle (12)

abbrev pub mask_tests : List ℕ → ℕ → List Test
mask_tests words j = each masks_place four_masks (λ c. at (JointWord j c) (at_most all_axes (word words_width words j c)))

abbrev pub present_tests : List Float → List ℕ → ℕ → List Test
present_tests bodies words j =
    at (JointWord j body1_place) (present_or_world plane bodies (body1_at words j)) ++ at (JointWord j body2_place) (present_or_world plane bodies (body2_at words j))

abbrev pub apart_tests : List ℕ → ℕ → List Test
apart_tests words j = at (JointWord j body1_place) (bodies_apart plane words j)

abbrev pub number_tests : List ℕ → List Float → ℕ → List Test
number_tests words numbers j = each 0 numbers_width (λ c. at (JointNumber j c) (passes (get_or (planar.joint_asks words j) c free) (num numbers_width numbers j c)))

abbrev pub angle_tests : List ℕ → List Float → ℕ → List Test
angle_tests words numbers j = at (JointNumber j center_place) (center_fits words numbers j)

-- ---- body i's numbers (6), and the settings (6 and 7), in the order of their declaration

abbrev pub body_tests : List Float → ℕ → List Test
body_tests bodies i = each 0 body_width (λ c. at (BodyNumber i c) (passes (get_or body_asks c free) (num body_width bodies i c)))

abbrev pub finite_tests : IntegrationParameters → List Test
finite_tests p =
    at (Setting 0) (is_finite p.dt) ++ (at (Setting 1) (is_finite p.length_unit) ++ at (Setting 2) (is_finite p.normalized_max_corrective_velocity))

abbrev pub step_tests : IntegrationParameters → List Test
step_tests p = at (Setting 0) (not (lt p.dt (bits 0)))

-- ---- the tests of the rule of number k

unfoldable pub setting_tests : IntegrationParameters → ℕ → List Test
setting_tests p k =
    cond (eqb k 6) (finite_tests p)
    (cond (eqb k 7) (step_tests p)
    [])

unfoldable pub joint_tests : List Float → List ℕ → List Float → ℕ → ℕ → List Test
joint_tests bodies words numbers k j =
    cond (eqb k 3) (mask_tests words j)
    (cond (eqb k 4) (present_tests bodies words j)
    (cond (eqb k 5) (apart_tests words j)
    (cond (eqb k 6) (number_tests words numbers j)
    (cond (eqb k 12) (angle_tests words numbers j)
    []))))

-- of all bodies and of all joints
unfoldable pub all_body_tests : List Float → ℕ → List Test
all_body_tests bodies k = cond (eqb k 6) (each 0 (body_count plane bodies) (body_tests bodies)) []

abbrev pub all_joint_tests : List Float → List ℕ → List Float → ℕ → List Test
all_joint_tests bodies words numbers k = each 0 (joint_count plane words numbers) (joint_tests bodies words numbers k)

-- of the model: settings, bodies, joints
abbrev pub place_tests : Model → ℕ → List Test
place_tests m k = setting_tests m.params k ++ (all_body_tests m.bodies k ++ all_joint_tests m.bodies m.words m.numbers k)

-- where a model breaks the rule of number k
abbrev pub refusal_place : Model → ℕ → Option Place
refusal_place m k = broken (place_tests m k)
