-- What the exported functions leave in the slice that they are lent.
use Rattle.std.specs.Prelude.{ℕ, ◌+◌, cond, ◌&&◌, List, leb, length, get_or, set, Float}
use Rattle.std.specs.Float.{nan}
use Rattle.floats.specs.Vector.{add_of, sub_of, mul_of, gdot_of, gcross_matrix_of, component_mul_of, length_of, transform_vector_of}
use Rattle.floats.specs.Rotation.{product_of, inverse_of, rotate_of, to_mat_of, column_of}
use Rattle.floats.specs.Pose.{pose_product_of}
use Rattle.floats.specs.Angle.{angle_of}
use Rattle.floats.specs.declared.vector.Vector.{Vector}
use Rattle.floats.specs.declared.rotation_ops.Rotation.{Rotation}
use Rattle.floats.specs.declared.pose.Pose.{Pose}
use Rattle.floats.specs.declared.scalar.Side.{Side}
use Rattle.floats.specs.declared.scalar.Side.TheVariants.{Low, High, Inside}

-- what a clamp or a row's step says, as a number: inside is 0, low 1 and high 2
abbrev pub side_number : Side → ℕ
side_number Inside = 0
side_number Low = 1
side_number High = 2

-- number i of a slice
abbrev pub at : List Float → ℕ → Float
at x i = get_or x i nan

abbrev pub vector_at : List Float → ℕ → Vector
vector_at x i = record { x = at x i; y = at x (i + 1) }

abbrev pub rotation_at : List Float → ℕ → Rotation
rotation_at x i = record { re = at x i; im = at x (i + 1) }

-- two numbers stored from i on
abbrev pub put_two : List Float → ℕ → Float → Float → List Float
put_two out i a b = set (set out i a) (i + 1) b

abbrev pub put_vector : List Float → ℕ → Vector → List Float
put_vector out i v = put_two out i v.x v.y

abbrev pub put_rotation : List Float → ℕ → Rotation → List Float
put_rotation out i p = put_two out i p.re p.im

-- nothing is written where the input is shorter than 13 numbers, or the output than n
abbrev pub if_room : ℕ → List Float → List Float → List Float → List Float
if_room n x out written = cond (leb 13 (length x) && leb n (length out)) written out

unfoldable pub vector_products : List Float → List Float → List Float
vector_products x out =
    let v = vector_at x 0 in
    let w = vector_at x 2 in
    if_room 6 x out (put_vector (put_vector (put_two out 0 (gdot_of v w) (length_of v)) 2 (gcross_matrix_of v)) 4 (component_mul_of v w))

unfoldable pub vector_sums : List Float → List Float → List Float
vector_sums x out =
    let v = vector_at x 0 in
    let w = vector_at x 2 in
    if_room 6 x out (put_vector (put_vector (put_vector out 0 (add_of v w)) 2 (sub_of v w)) 4 (mul_of v (at x 4)))

unfoldable pub rotation_products : List Float → List Float → List Float
rotation_products x out =
    let a = rotation_at x 5 in
    let b = rotation_at x 7 in
    if_room 6 x out (put_vector (put_rotation (put_rotation out 0 (product_of a b)) 2 (inverse_of a)) 4 (rotate_of a (vector_at x 0)))

unfoldable pub rotation_columns : List Float → List Float → List Float
rotation_columns x out =
    let a = rotation_at x 5 in
    if_room 6 x out
    (put_two (put_vector (put_vector out 0 (column_of (to_mat_of a) 0)) 2 (column_of (to_mat_of a) 1)) 4 (angle_of a.re a.im) (transform_vector_of (at x 4) (at x 0)))

unfoldable pub pose_product : List Float → List Float → List Float
pose_product x out =
    let p : Pose = record { rotation = rotation_at x 5; translation = vector_at x 9 } in
    let q : Pose = record { rotation = rotation_at x 7; translation = vector_at x 11 } in
    if_room 4 x out (put_vector (put_rotation out 0 (pose_product_of p q).rotation) 2 (pose_product_of p q).translation)
