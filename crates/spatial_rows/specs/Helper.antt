-- The Rust's joint_constraint_helper.rs in space, what the rows of a joint share: its frames and its errors.
use Rattle.std.specs.Prelude.{ℕ, cond, eqb, Float}
use Rattle.floats.specs.Operators.{bits}
use Rattle.rows.specs.RowIds.{has_axis}
use Rattle.spatial_floats.specs.Vector.{sub_of, mul_of, gdot_of}
use Rattle.spatial_floats.specs.Matrix.{column_of, gcross_matrix_of, matrix_product_of, scaled_of}
use Rattle.spatial_floats.specs.Rotation.{product_of, inverse_of, dot_of, times_of, to_mat_of, diff_conj12_tr_of}
use Rattle.spatial_floats.specs.Sign.{sign_of}
use Rattle.spatial_floats.specs.declared.vector.Vector.{Vector}
use Rattle.spatial_floats.specs.declared.matrix.Matrix.{Matrix}
use Rattle.spatial_floats.specs.declared.rotation_ops.Rotation.{Rotation}
use Rattle.spatial_floats.specs.declared.pose.Pose.{Pose}
use Rattle.spatial_rows.specs.declared.joint_constraint_helper.AngularPart.{AngularPart}
use Rattle.spatial_rows.specs.declared.joint_constraint_helper.JointConstraintHelper.{JointConstraintHelper}
use Rattle.spatial_rows.specs.declared.joint_constraint_helper.RowAxis.{RowAxis}

-- the number of axes 0 and 1, or else of axis 2
unfoldable pub coord_of : Vector → ℕ → Float
coord_of v i = cond (eqb i 0) v.x (cond (eqb i 1) v.y v.z)

-- the centre moved back along axis i by the error along it, where that axis is locked
unfoldable pub snapped_of : Vector → Matrix → Vector → ℕ → ℕ → Vector
snapped_of center basis lin_err locked i =
    cond (has_axis locked i) (sub_of center (mul_of (column_of basis i) (gdot_of lin_err (column_of basis i)))) center

-- the cross matrix of an arm, times the basis: its columns are the moment arms of the three directions
unfoldable pub cross_basis_of : Vector → Matrix → Matrix
cross_basis_of arm basis = matrix_product_of (gcross_matrix_of arm) basis

-- The rotation from frame 1 to frame 2, and the transpose of its derivative by the angular velocity, so that column i of ang_basis is the derivative of component i of
-- ang_err. Both have the sign of the rotations' dot, so that of the two quaternions of one rotation that nearer to the first counts; a dot of −0 is minus, a NaN plus.
unfoldable pub angular_part_of : Rotation → Rotation → AngularPart
angular_part_of p q =
    let s = sign_of (dot_of p q) in
    record { ang_basis = scaled_of (diff_conj12_tr_of p q) s; ang_err = times_of (product_of (inverse_of p) q) s }

-- `JointConstraintHelper::new`. The basis is frame 1's three directions; lin_err is how far frame 2's origin lies from frame 1's. Only the linear bits of the locked axes
-- move the centre.
unfoldable pub new_of : Pose → Pose → Vector → Vector → ℕ → JointConstraintHelper
new_of frame1 frame2 com1 com2 locked =
    let basis = to_mat_of frame1.rotation in
    let lin_err = sub_of frame2.translation frame1.translation in
    let center1 = snapped_of (snapped_of (snapped_of frame2.translation basis lin_err locked 0) basis lin_err locked 1) basis lin_err locked 2 in
    let angular = angular_part_of frame1.rotation frame2.rotation in
    record {
      basis = basis;
      cmat1_basis = cross_basis_of (sub_of center1 com1) basis;
      cmat2_basis = cross_basis_of (sub_of frame2.translation com2) basis;
      ang_basis = angular.ang_basis;
      lin_err = lin_err;
      ang_err = angular.ang_err;
    }

-- ---- a row's direction (`RowAxis`): its Jacobian, and the distance along it

-- a linear axis
unfoldable pub linear_axis_of : JointConstraintHelper → ℕ → RowAxis
linear_axis_of h i = record {
  dist = gdot_of h.lin_err (column_of h.basis i);
  lin_jac = column_of h.basis i;
  ang_jac1 = column_of h.cmat1_basis i;
  ang_jac2 = column_of h.cmat2_basis i;
}

-- an angular axis, counted from the first angular one: both angular Jacobians are its column of ang_basis
unfoldable pub angular_axis_of : JointConstraintHelper → ℕ → RowAxis
angular_axis_of h i = record {
  dist = bits 0;
  lin_jac = record { x = bits 0; y = bits 0; z = bits 0 };
  ang_jac1 = column_of h.ang_basis i;
  ang_jac2 = column_of h.ang_basis i;
}
