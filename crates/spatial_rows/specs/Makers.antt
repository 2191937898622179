-- The Rust's joint_constraint_helper.rs in space: one definition a row kind, before its group is orthogonalised. As in the Rust, a linear limit and motor are the
-- lock's row with fields overwritten; proofs/MakerShapes.antt has them as one literal. Bounds, biases and right-hand sides have no dimension in them and are the crate rows'.
use Rattle.std.specs.Prelude.{ℕ, Float, Option}
use Rattle.floats.specs.Operators.{bits, ◌⊕◌, ◌⊗◌}
use Rattle.spatial_floats.specs.Vector.{gdot_of}
use Rattle.spatial_floats.specs.Rotation.{xyz_of}
use Rattle.spatial_floats.specs.AngularInertia.{transform_vector_of}
use Rattle.rows.specs.Makers.{ErpCfm, erp_cfm, RowTerms, lock_bounds, limit_bounds_of, limit_bias_of, motor_rhs_of, motor_bounds_of}
use Rattle.rows.specs.declared.integration_parameters.IntegrationParameters.{IntegrationParameters}
use Rattle.rows.specs.declared.joint_velocity_constraint.MotorParameters.{MotorParameters}
use Rattle.rows.specs.declared.joint_constraint_helper.ImpulseBounds.{ImpulseBounds}
use Rattle.rows.specs.declared.joint_constraint_helper.LimitEnds.{LimitEnds}
use Rattle.spatial_rows.specs.Row.{with_bounds, with_rhs, with_rhs_wo_bias, with_cfm_gain, with_cfm_coeff}
use Rattle.spatial_rows.specs.Helper.{coord_of, linear_axis_of, angular_axis_of}
use Rattle.spatial_rows.specs.declared.joint_constraint_helper.JointConstraintHelper.{JointConstraintHelper}
use Rattle.spatial_rows.specs.declared.joint_constraint_helper.RowAxis.{RowAxis}
use Rattle.spatial_rows.specs.declared.joint_velocity_constraint.JointSolverBody.{JointSolverBody}
use Rattle.spatial_rows.specs.declared.joint_velocity_constraint.JointConstraint.{JointConstraint}

-- a row's two bodies
pub record TwoBodies : Type 0 where
  pub body1 : JointSolverBody
  pub body2 : JointSolverBody

abbrev pub two_bodies : JointSolverBody → JointSolverBody → TwoBodies
two_bodies body1 body2 = record { body1 = body1; body2 = body2 }

-- The literal that ends the Rust's makers: impulse 0, and an inverse left-hand side that comes with its group.
unfoldable pub assemble_of : TwoBodies → RowAxis → ImpulseBounds → RowTerms → JointConstraint
assemble_of bodies axis bounds terms = record {
  impulse = bits 0;
  impulse_min = bounds.min;
  impulse_max = bounds.max;
  lin_jac = axis.lin_jac;
  ang_jac1 = axis.ang_jac1;
  ang_jac2 = axis.ang_jac2;
  ii_ang_jac1 = transform_vector_of bodies.body1.ii axis.ang_jac1;
  ii_ang_jac2 = transform_vector_of bodies.body2.ii axis.ang_jac2;
  inv_lhs = bits 0;
  rhs = terms.rhs;
  rhs_wo_bias = terms.rhs_wo_bias;
  cfm_gain = terms.cfm_gain;
  cfm_coeff = terms.cfm_coeff;
  im1 = bodies.body1.im;
  im2 = bodies.body2.im;
}

-- ---- locks

-- `lock_linear`: its bias takes the error along the axis back, at erp / dt
unfoldable pub lock_linear_of : JointConstraintHelper → TwoBodies → ℕ → ErpCfm → JointConstraint
lock_linear_of h bodies i soft =
    let axis = linear_axis_of h i in
    let bias = gdot_of axis.lin_jac h.lin_err ⊗ soft.erp_inv_dt in
    assemble_of bodies axis lock_bounds (record { rhs = bits 0 ⊕ bias; rhs_wo_bias = bits 0; cfm_coeff = soft.cfm_coeff; cfm_gain = bits 0 })

-- `lock_angular`, of an axis counted from the first angular one: its bias takes back that component of the quaternion ang_err, the sine of half the angle
unfoldable pub lock_angular_of : JointConstraintHelper → TwoBodies → ℕ → ErpCfm → JointConstraint
lock_angular_of h bodies i soft =
    let bias = coord_of (xyz_of h.ang_err) i ⊗ soft.erp_inv_dt in
    assemble_of bodies (angular_axis_of h i) lock_bounds (record { rhs = bits 0 ⊕ bias; rhs_wo_bias = bits 0; cfm_coeff = soft.cfm_coeff; cfm_gain = bits 0 })

-- ---- limits

-- `limit_linear`: the lock's row, with three fields overwritten
unfoldable pub limit_linear_of : JointConstraintHelper → IntegrationParameters → TwoBodies → ℕ → LimitEnds → ErpCfm → JointConstraint
limit_linear_of h p bodies i limits soft =
    let lock = lock_linear_of h bodies i soft in
    let dist = gdot_of h.lin_err lock.lin_jac in
    let bias = limit_bias_of p dist limits.min limits.max soft.erp_inv_dt in
    let moved = with_rhs lock (lock.rhs_wo_bias ⊕ bias) in
    let softened = with_cfm_coeff moved soft.cfm_coeff in
    with_bounds softened (limit_bounds_of dist limits.min limits.max)

-- ---- motors

-- a motor's row: its right-hand side has no bias
unfoldable pub motor_row_of : TwoBodies → RowAxis → MotorParameters → Float → JointConstraint
motor_row_of bodies axis m rhs =
    assemble_of bodies axis (motor_bounds_of m) (record { rhs = rhs; rhs_wo_bias = rhs; cfm_coeff = m.cfm_coeff; cfm_gain = m.cfm_gain })

-- `motor_linear`: the lock's row with no softness, with five fields overwritten
unfoldable pub motor_linear_of : JointConstraintHelper → IntegrationParameters → TwoBodies → ℕ → MotorParameters → Option LimitEnds → JointConstraint
motor_linear_of h p bodies i m limits =
    let lock = lock_linear_of h bodies i (erp_cfm (bits 0) (bits 0)) in
    let rhs = motor_rhs_of p m limits (gdot_of h.lin_err lock.lin_jac) in
    let softened = with_cfm_gain (with_cfm_coeff lock m.cfm_coeff) m.cfm_gain in
    let bounded = with_bounds softened (motor_bounds_of m) in
    with_rhs_wo_bias (with_rhs bounded rhs) rhs
