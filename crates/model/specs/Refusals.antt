-- Document 01, "Eleven refusals, in checking order", and document 02's rule 12, which it puts right after 6: what rules 3, 6 and 12 ask of one joint or body. The other rules and their order are multibody's; 13 to 15, of a motor table, stand in Planar.
use Rattle.std.specs.Prelude.{ℕ, Bool, true, not, cond, ◌&&◌, List, [], ◌∷◌, ◌++◌, eqb, replicate, Float}
use Rattle.floats.specs.Scalar.{is_finite}
use Rattle.floats.specs.SinCos.{angle_too_large}
use Rattle.floats.specs.declared.pose.Pose.{Pose}
use Rattle.rows.specs.declared.generic_joint.Masks.{Masks}
use Rattle.model.specs.Layout.{velocity_place, words_width, masks_place, limits_place}
use Rattle.model.specs.Records.{word}
use Rattle.model.specs.Store.{center_at}
use Rattle.multibody.specs.Rules.{all, at_most}
use Rattle.multibody.specs.Finite.{Asks, limit_asks, motor_asks, thrice}
use Rattle.multibody.specs.Finite.Asks.{finite, free}
use Rattle.model.specs.declared.store.LimitCenter.{LimitCenter}
use Rattle.model.specs.declared.store.LimitCenter.TheVariants.{CosineSine, Angle}

-- the mask of all three axes, and the number of masks
abbrev pub all_axes : ℕ
all_axes = 7

abbrev pub four_masks : ℕ
four_masks = 4

-- ---- what rule 3 asks of joint j, and of new masks

unfoldable pub masks_fit : List ℕ → ℕ → Bool
masks_fit words j = all masks_place four_masks (λ c. at_most all_axes (word words_width words j c))

-- and of the masks that a call brings (document 02, R-10)
unfoldable pub new_masks_fit : Masks → Bool
new_masks_fit ms = at_most all_axes ms.locked_axes && (at_most all_axes ms.limit_axes && (at_most all_axes ms.motor_axes && at_most all_axes ms.coupled_axes))

-- ---- what rule 6 asks of each number of a body and of a joint

-- pose, inverse inertia and inverse masses; velocity
abbrev pub body_asks : List Asks
body_asks = replicate velocity_place finite ++ replicate 3 free

-- a typed cosine and sine; or a typed angle, and the number after it is nobody's
abbrev pub center_asks : ℕ → List Asks
center_asks choice = finite ∷ cond (eqb choice 0) finite free ∷ []

-- two frames; the limits and the motors of three axes; softness; Dof impulses; the centre, typed as the word `choice` says
abbrev pub joint_asks : ℕ → List Asks
joint_asks choice = replicate limits_place finite ++ (thrice limit_asks ++ (thrice motor_asks ++ (replicate 2 finite ++ (replicate 3 free ++ center_asks choice))))

-- a new pose
unfoldable pub finite_pose : Pose → Bool
finite_pose p = is_finite p.rotation.re && (is_finite p.rotation.im && (is_finite p.translation.x && is_finite p.translation.y))

-- a centre, as the program tries it (`center-tried` in proofs/Tried.antt: what `center_asks` asks)
unfoldable pub finite_center : LimitCenter → Bool
finite_center (CosineSine re im) = is_finite re && is_finite im
finite_center (Angle angle) = is_finite angle

-- ---- what rule 12 asks of joint j: no typed angle above 1024 in size

unfoldable pub angle_fits : LimitCenter → Bool
angle_fits (CosineSine re im) = true
angle_fits (Angle angle) = not (angle_too_large angle)

unfoldable pub center_fits : List ℕ → List Float → ℕ → Bool
center_fits words numbers j = angle_fits (center_at words numbers j)
