-- Document 01, "Eleven refusals, in checking order", and document 02's rule 17, which it puts right after 3: what rules 3, 17 and 6 ask of a spatial model. The other rules are multibody's.
use Rattle.std.specs.Prelude.{ℕ, ◌+◌, Bool, ◌&&◌, List, ◌++◌, eqb, replicate}
use Rattle.floats.specs.Scalar.{is_finite}
use Rattle.spatial_floats.specs.declared.vector.Vector.{Vector}
use Rattle.spatial_floats.specs.declared.rotation_ops.Rotation.{Rotation}
use Rattle.spatial_floats.specs.declared.pose.Pose.{Pose}
use Rattle.multibody.specs.Rules.{all, at_most}
use Rattle.multibody.specs.Records.{word}
use Rattle.multibody.specs.Finite.{Asks, limit_asks, motor_asks, thrice}
use Rattle.multibody.specs.Finite.Asks.{finite, free}
use Rattle.spatial_model.specs.Layout.{velocity_place, words_width, masks_place, limits_place}

-- the masks of all six axes and of the three linear ones, and the number of masks
abbrev pub all_axes : ℕ
all_axes = 63

abbrev pub linear_axes : ℕ
linear_axes = 7

abbrev pub four_masks : ℕ
four_masks = 4

-- ---- what rules 3 and 17 ask of joint j, enabled or not, on locked axes too: they look at the words themselves

unfoldable pub masks_fit : List ℕ → ℕ → Bool
masks_fit words j = all masks_place four_masks (λ c. at_most all_axes (word words_width words j c))

-- limits and motors on linear axes alone, and no coupled axis
unfoldable pub linear_alone : List ℕ → ℕ → Bool
linear_alone words j =
    let mask = word words_width words j in
    at_most linear_axes (mask (masks_place + 1)) && (at_most linear_axes (mask (masks_place + 2)) && eqb (mask (masks_place + 3)) 0)

-- ---- what rule 6 asks of each number of a body and of a joint

-- pose, inverse inertia and inverse masses; velocity
abbrev pub body_asks : List Asks
body_asks = replicate velocity_place finite ++ replicate 6 free

-- two frames; the limits and the motors of the three linear axes; softness; Dof impulses
abbrev pub joint_asks : List Asks
joint_asks = replicate limits_place finite ++ (thrice limit_asks ++ (thrice motor_asks ++ (replicate 2 finite ++ replicate 6 free)))

-- a new pose
unfoldable pub finite_vector : Vector → Bool
finite_vector v = is_finite v.x && (is_finite v.y && is_finite v.z)

unfoldable pub finite_rotation : Rotation → Bool
finite_rotation q = is_finite q.x && (is_finite q.y && (is_finite q.z && is_finite q.w))

unfoldable pub finite_pose : Pose → Bool
finite_pose p = finite_rotation p.rotation && finite_vector p.translation
