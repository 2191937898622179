-- The Rust's joint_constraint_helper.rs: one definition a row kind, before its group is orthogonalised. As in the Rust, an uncoupled linear limit and motor are the
-- lock's row with fields overwritten; proofs/MakerShapes.antt has them as one literal, and the coupled two with the Rust's loop over the axes.
use Rattle.std.specs.Prelude.{ℕ, true, false, cond, Float, Option, Some, None}
use Rattle.std.specs.Float.{inf}
use Rattle.std.specs.Float.Ieee.{neg, le, ne}
use Rattle.floats.specs.Operators.{bits, ◌⊕◌, ◌⊖◌, ◌⊗◌}
use Rattle.floats.specs.Constants.{max_float}
use Rattle.floats.specs.Scalar.{max_of, min_of, clamp_of}
use Rattle.floats.specs.Utils.{smallest_abs_diff_between_angles_of}
use Rattle.floats.specs.Angle.{angle_of}
use Rattle.floats.specs.Vector.{gdot_of, transform_vector_of}
use Rattle.rows.specs.IntegrationParameters.{inv_dt_of, max_corrective_velocity_of}
use Rattle.rows.specs.Row.{with_bounds, with_rhs, with_rhs_wo_bias, with_cfm_gain, with_cfm_coeff}
use Rattle.rows.specs.Helper.{linear_axis_of, angular_axis, coupled_axis_of}
use Rattle.rows.specs.declared.integration_parameters.IntegrationParameters.{IntegrationParameters}
use Rattle.rows.specs.declared.joint_velocity_constraint.MotorParameters.{MotorParameters}
use Rattle.rows.specs.declared.joint_constraint_helper.AngularLimitParams.{AngularLimitParams}
use Rattle.rows.specs.declared.joint_constraint_helper.JointConstraintHelper.{JointConstraintHelper}
use Rattle.rows.specs.declared.joint_constraint_helper.RowAxis.{RowAxis}
use Rattle.rows.specs.declared.joint_constraint_helper.ImpulseBounds.{ImpulseBounds}
use Rattle.rows.specs.declared.joint_constraint_helper.LimitEnds.{LimitEnds}
use Rattle.rows.specs.declared.joint_velocity_constraint.JointSolverBody.{JointSolverBody}
use Rattle.rows.specs.declared.joint_velocity_constraint.JointConstraint.{JointConstraint}

-- a row's two bodies
pub record TwoBodies : Type 0 where
  pub body1 : JointSolverBody
  pub body2 : JointSolverBody

abbrev pub two_bodies : JointSolverBody → JointSolverBody → TwoBodies
two_bodies body1 body2 = record { body1 = body1; body2 = body2 }

-- the softness of a joint's locks and limits at a timestep: erp / dt, and cfm as a part of J M⁻¹ Jᵀ
pub record ErpCfm : Type 0 where
  pub erp_inv_dt : Float
  pub cfm_coeff : Float

abbrev pub erp_cfm : Float → Float → ErpCfm
erp_cfm erp_inv_dt cfm_coeff = record { erp_inv_dt = erp_inv_dt; cfm_coeff = cfm_coeff }

-- a row's right-hand side, with and without its bias, and its softness
pub record RowTerms : Type 0 where
  pub rhs : Float
  pub rhs_wo_bias : Float
  pub cfm_coeff : Float
  pub cfm_gain : Float

-- The literal that ends the Rust's makers: impulse 0, and an inverse left-hand side that comes with its group.
unfoldable pub assemble_of : TwoBodies → RowAxis → ImpulseBounds → RowTerms → JointConstraint
assemble_of bodies axis bounds terms = record {
  impulse = bits 0;
  impulse_min = bounds.min;
  impulse_max = bounds.max;
  lin_jac = axis.lin_jac;
  ang_jac1 = axis.ang_jac1;
  ang_jac2 = axis.ang_jac2;
  ii_ang_jac1 = transform_vector_of bodies.body1.ii axis.ang_jac1;
  ii_ang_jac2 = transform_vector_of bodies.body2.ii axis.ang_jac2;
  inv_lhs = bits 0;
  rhs = terms.rhs;
  rhs_wo_bias = terms.rhs_wo_bias;
  cfm_gain = terms.cfm_gain;
  cfm_coeff = terms.cfm_coeff;
  im1 = bodies.body1.im;
  im2 = bodies.body2.im;
}

-- ---- locks

-- a lock's bounds
unfoldable pub lock_bounds : ImpulseBounds
lock_bounds = record { min = neg max_float; max = max_float }

-- `lock_linear`: its bias takes the error along the axis back, at erp / dt
unfoldable pub lock_linear_of : JointConstraintHelper → TwoBodies → ℕ → ErpCfm → JointConstraint
lock_linear_of h bodies i soft =
    let axis = linear_axis_of h i in
    let bias = gdot_of axis.lin_jac h.lin_err ⊗ soft.erp_inv_dt in
    assemble_of bodies axis lock_bounds (record { rhs = bits 0 ⊕ bias; rhs_wo_bias = bits 0; cfm_coeff = soft.cfm_coeff; cfm_gain = bits 0 })

-- `lock_angular`
unfoldable pub lock_angular_of : JointConstraintHelper → TwoBodies → ErpCfm → JointConstraint
lock_angular_of h bodies soft =
    let bias = h.ang_err.im ⊗ soft.erp_inv_dt in
    assemble_of bodies angular_axis lock_bounds (record { rhs = bits 0 ⊕ bias; rhs_wo_bias = bits 0; cfm_coeff = soft.cfm_coeff; cfm_gain = bits 0 })

-- ---- limits

-- Strictly inside its limits a row has the bounds [0, 0]; touching an end opens that side.
unfoldable pub limit_bounds_of : Float → Float → Float → ImpulseBounds
limit_bounds_of dist low high = record { min = cond (le dist low) (inf true) (bits 0); max = cond (le high dist) (inf false) (bits 0) }

-- a bias, at most the corrective velocity either way
abbrev pub capped_of : IntegrationParameters → Float → Float
capped_of p bias = clamp_of bias (neg (max_corrective_velocity_of p)) (max_corrective_velocity_of p)

-- how far an end is passed, times erp_inv_dt, capped
unfoldable pub limit_bias_of : IntegrationParameters → Float → Float → Float → Float → Float
limit_bias_of p dist low high erp_inv_dt = capped_of p ((max_of (dist ⊖ high) (bits 0) ⊖ max_of (low ⊖ dist) (bits 0)) ⊗ erp_inv_dt)

-- `limit_linear`: the lock's row, with three fields overwritten
unfoldable pub limit_linear_of : JointConstraintHelper → IntegrationParameters → TwoBodies → ℕ → LimitEnds → ErpCfm → JointConstraint
limit_linear_of h p bodies i limits soft =
    let lock = lock_linear_of h bodies i soft in
    let dist = gdot_of h.lin_err lock.lin_jac in
    let bias = limit_bias_of p dist limits.min limits.max soft.erp_inv_dt in
    let moved = with_rhs lock (lock.rhs_wo_bias ⊕ bias) in
    let softened = with_cfm_coeff moved soft.cfm_coeff in
    with_bounds softened (limit_bounds_of dist limits.min limits.max)

-- `limit_linear_coupled`: always [0, infinity], and only the upper end is read
unfoldable pub limit_linear_coupled_of : JointConstraintHelper → IntegrationParameters → TwoBodies → ℕ → LimitEnds → ErpCfm → JointConstraint
limit_linear_coupled_of h p bodies coupled limits soft =
    let axis = coupled_axis_of h coupled in
    let passed = axis.dist ⊖ limits.max in
    let rhs_wo_bias = min_of passed (bits 0) ⊗ inv_dt_of p in
    let bias = capped_of p (max_of passed (bits 0) ⊗ soft.erp_inv_dt) in
    let bounds : ImpulseBounds = record { min = bits 0; max = inf false } in
    assemble_of bodies axis bounds (record { rhs = rhs_wo_bias ⊕ bias; rhs_wo_bias = rhs_wo_bias; cfm_coeff = soft.cfm_coeff; cfm_gain = bits 0 })

-- `recentered_angle`: the joint's angle from its limit's centre
unfoldable pub recentered_angle_of : JointConstraintHelper → AngularLimitParams → Float
recentered_angle_of h limit =
    let c = limit.center in
    let e = h.ang_err in
    angle_of (c.re ⊗ e.re ⊕ c.im ⊗ e.im) (c.re ⊗ e.im ⊖ c.im ⊗ e.re)

-- `limit_angular`
unfoldable pub limit_angular_of : JointConstraintHelper → IntegrationParameters → TwoBodies → AngularLimitParams → ErpCfm → JointConstraint
limit_angular_of h p bodies limit soft =
    let ang = recentered_angle_of h limit in
    let high = limit.half_range in
    let bias = limit_bias_of p ang (neg high) high soft.erp_inv_dt in
    assemble_of bodies angular_axis (limit_bounds_of ang (neg high) high) (record { rhs = bits 0 ⊕ bias; rhs_wo_bias = bits 0; cfm_coeff = soft.cfm_coeff; cfm_gain = bits 0 })

-- ---- motors

-- a linear motor's target velocity, kept within what reaches its limits' ends in one step, where it has limits
unfoldable pub limited_target_vel_of : Float → Option LimitEnds → Float → Float → Float
limited_target_vel_of target_vel (Some ends) dist inv_dt = clamp_of target_vel ((ends.min ⊖ dist) ⊗ inv_dt) ((ends.max ⊖ dist) ⊗ inv_dt)
limited_target_vel_of target_vel None dist inv_dt = target_vel

-- a linear motor's right-hand side, at its distance
unfoldable pub motor_rhs_of : IntegrationParameters → MotorParameters → Option LimitEnds → Float → Float
motor_rhs_of p m limits dist =
    let spring = cond (ne m.erp_inv_dt (bits 0)) (bits 0 ⊕ (dist ⊖ m.target_pos) ⊗ m.erp_inv_dt) (bits 0) in
    spring ⊕ neg (limited_target_vel_of m.target_vel limits dist (inv_dt_of p))

unfoldable pub motor_bounds_of : MotorParameters → ImpulseBounds
motor_bounds_of m = record { min = neg m.max_impulse; max = m.max_impulse }

-- a motor's row: its right-hand side has no bias
unfoldable pub motor_row_of : TwoBodies → RowAxis → MotorParameters → Float → JointConstraint
motor_row_of bodies axis m rhs =
    assemble_of bodies axis (motor_bounds_of m) (record { rhs = rhs; rhs_wo_bias = rhs; cfm_coeff = m.cfm_coeff; cfm_gain = m.cfm_gain })

-- `motor_linear`: the lock's row with no softness, with five fields overwritten
unfoldable pub motor_linear_of : JointConstraintHelper → IntegrationParameters → TwoBodies → ℕ → MotorParameters → Option LimitEnds → JointConstraint
motor_linear_of h p bodies i m limits =
    let lock = lock_linear_of h bodies i (erp_cfm (bits 0) (bits 0)) in
    let rhs = motor_rhs_of p m limits (gdot_of h.lin_err lock.lin_jac) in
    let softened = with_cfm_gain (with_cfm_coeff lock m.cfm_coeff) m.cfm_gain in
    let bounded = with_bounds softened (motor_bounds_of m) in
    with_rhs_wo_bias (with_rhs bounded rhs) rhs

-- `motor_linear_coupled`
unfoldable pub motor_linear_coupled_of : JointConstraintHelper → IntegrationParameters → TwoBodies → ℕ → MotorParameters → Option LimitEnds → JointConstraint
motor_linear_coupled_of h p bodies coupled m limits =
    let axis = coupled_axis_of h coupled in
    motor_row_of bodies axis m (motor_rhs_of p m limits axis.dist)

-- an angular motor's right-hand side: `ang_err.angle()` is document 01's angle
unfoldable pub motor_angular_rhs_of : JointConstraintHelper → MotorParameters → Float
motor_angular_rhs_of h m =
    let ang_dist = angle_of h.ang_err.re h.ang_err.im in
    let spring =
    cond (ne m.erp_inv_dt (bits 0)) (bits 0 ⊕ smallest_abs_diff_between_angles_of ang_dist m.target_pos ⊗ m.erp_inv_dt) (bits 0) in
    spring ⊕ neg m.target_vel

-- `motor_angular`
unfoldable pub motor_angular_of : JointConstraintHelper → TwoBodies → MotorParameters → JointConstraint
motor_angular_of h bodies m = motor_row_of bodies angular_axis m (motor_angular_rhs_of h m)
