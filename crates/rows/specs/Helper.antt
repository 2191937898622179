-- The Rust's joint_constraint_helper.rs, what the rows of a joint share: its frames, its errors and its limit's centre.
use Rattle.std.specs.Prelude.{ℕ, cond, ◌||◌, eqb, Float}
use Rattle.std.specs.Float.Ieee.{le, ne}
use Rattle.floats.specs.Operators.{bits, ◌⊕◌, ◌⊖◌, ◌⊗◌}
use Rattle.floats.specs.Constants.{half, one, ten, pi}
use Rattle.floats.specs.Utils.{simd_inv_of}
use Rattle.floats.specs.Vector.{add_of, sub_of, mul_of, gdot_of, gcross_matrix_of, length_of}
use Rattle.floats.specs.Rotation.{product_of, inverse_of, to_mat_of, column_of}
use Rattle.floats.specs.declared.vector.Vector.{Vector}
use Rattle.floats.specs.declared.rotation_ops.Rotation.{Rotation}
use Rattle.floats.specs.declared.rotation_ops.Matrix.{Matrix}
use Rattle.floats.specs.declared.pose.Pose.{Pose}
use Rattle.rows.specs.RowIds.{has_axis}
use Rattle.rows.specs.declared.joint_constraint_helper.AngularLimitParams.{AngularLimitParams}
use Rattle.rows.specs.declared.joint_constraint_helper.JointConstraintHelper.{JointConstraintHelper}
use Rattle.rows.specs.declared.joint_constraint_helper.RowAxis.{RowAxis}

-- half of the range from min to max
abbrev pub half_range_of : Float → Float → Float
half_range_of min max = (max ⊖ min) ⊗ half

-- `AngularLimitParams::new`, with the caller's centre: a half range of π or more, or a NaN, gives the centre (1, 0) and 10, which no angle reaches
unfoldable pub angular_limit_params_of : Float → Float → Rotation → AngularLimitParams
angular_limit_params_of min max center =
    let half_range = half_range_of min max in
    cond (le pi half_range || ne half_range half_range)
    (record { center = record { re = one; im = bits 0 }; half_range = ten })
    (record { center = center; half_range = half_range })

-- the number of linear axis 0, or else of axis 1
unfoldable pub coord_of : Vector → ℕ → Float
coord_of v i = cond (eqb i 0) v.x v.y

-- the centre moved back along axis i by the error along it, where that axis is locked
unfoldable pub snapped_of : Vector → Matrix → Vector → ℕ → ℕ → Vector
snapped_of center basis lin_err locked i =
    cond (has_axis locked i) (sub_of center (mul_of (column_of basis i) (gdot_of lin_err (column_of basis i)))) center

-- `JointConstraintHelper::new`. The basis is frame 1's two directions; lin_err is how far frame 2's origin lies from frame 1's, and ang_err the rotation from frame 1
-- to frame 2. cmat1_basis and cmat2_basis have, for each direction, the moment arms of the point where the rows act about each body's centre of mass.
unfoldable pub new_of : Pose → Pose → Vector → Vector → ℕ → JointConstraintHelper
new_of frame1 frame2 com1 com2 locked =
    let basis = to_mat_of frame1.rotation in
    let lin_err = sub_of frame2.translation frame1.translation in
    let center1 = snapped_of (snapped_of frame2.translation basis lin_err locked 0) basis lin_err locked 1 in
    let cmat1 = gcross_matrix_of (sub_of center1 com1) in
    let cmat2 = gcross_matrix_of (sub_of frame2.translation com2) in
    record {
      basis = basis;
      cmat1_basis = record { x = gdot_of cmat1 (column_of basis 0); y = gdot_of cmat1 (column_of basis 1) };
      cmat2_basis = record { x = gdot_of cmat2 (column_of basis 0); y = gdot_of cmat2 (column_of basis 1) };
      lin_err = lin_err;
      ang_err = product_of (inverse_of frame1.rotation) frame2.rotation;
    }

-- ---- a row's direction (`RowAxis`): its Jacobian, and the distance along it

-- an uncoupled linear axis
unfoldable pub linear_axis_of : JointConstraintHelper → ℕ → RowAxis
linear_axis_of h i = record {
  dist = gdot_of h.lin_err (column_of h.basis i);
  lin_jac = column_of h.basis i;
  ang_jac1 = coord_of h.cmat1_basis i;
  ang_jac2 = coord_of h.cmat2_basis i;
}

-- the angular axis: both angular Jacobians are 1
unfoldable pub angular_axis : RowAxis
angular_axis = record {
  dist = bits 0;
  lin_jac = record { x = bits 0; y = bits 0 };
  ang_jac1 = one;
  ang_jac2 = one;
}

-- the sums over the coupled linear axes, with axis i added where it is coupled
unfoldable pub coupled_step_of : JointConstraintHelper → RowAxis → ℕ → ℕ → RowAxis
coupled_step_of h c coupled i =
    let coeff = gdot_of (column_of h.basis i) h.lin_err in
    cond (has_axis coupled i)
    (record {
      dist = c.dist;
      lin_jac = add_of c.lin_jac (mul_of (column_of h.basis i) coeff);
      ang_jac1 = c.ang_jac1 ⊕ coord_of h.cmat1_basis i ⊗ coeff;
      ang_jac2 = c.ang_jac2 ⊕ coord_of h.cmat2_basis i ⊗ coeff;
    })
    c

-- the sums before any axis
abbrev pub no_axis : RowAxis
no_axis = record { dist = bits 0; lin_jac = record { x = bits 0; y = bits 0 }; ang_jac1 = bits 0; ang_jac2 = bits 0 }

-- the coupled linear axes as one: the distance is the length of the sum, which then is scaled to length 1
unfoldable pub coupled_axis_of : JointConstraintHelper → ℕ → RowAxis
coupled_axis_of h coupled =
    let c = coupled_step_of h (coupled_step_of h no_axis coupled 0) coupled 1 in
    let dist = length_of c.lin_jac in
    record {
      dist = dist;
      lin_jac = mul_of c.lin_jac (simd_inv_of dist);
      ang_jac1 = c.ang_jac1 ⊗ simd_inv_of dist;
      ang_jac2 = c.ang_jac2 ⊗ simd_inv_of dist;
    }
