-- The makers of uncoupled linear limits and motors as one literal (`limit-linear-is`, `motor-linear-is`), where their definitions overwrite fields of the lock's row, as the
-- Rust does. The coupled two (`limit-linear-coupled-is`, `motor-linear-coupled-is`) as the Rust has them: a loop over the axes with three sums, which are scaled, and a literal.
-- Assumes nothing.
use Rattle.std.specs.Prelude.{Option}
use Prim.Native.Nat.{ℕ}
use mathlib.Core.Path.{◌≡◌, refl}
use mathlib.Core.Bool.{Bool, true, false, cond}
use lib.Ieee.{Float, inf, neg, ne}
use Rattle.floats.specs.Operators.{bits, ◌⊕◌, ◌⊖◌, ◌⊗◌}
use Rattle.floats.specs.Scalar.{max_of, min_of, clamp_of}
use Rattle.floats.specs.Utils.{simd_inv_of}
use Rattle.floats.specs.Vector.{add_of, mul_of, gdot_of, length_of, transform_vector_of}
use Rattle.floats.specs.Rotation.{column_of}
use Rattle.floats.specs.declared.vector.Vector.{Vector}
use Rattle.rows.specs.RowIds.{has_axis}
use Rattle.rows.specs.IntegrationParameters.{inv_dt_of, max_corrective_velocity_of}
use Rattle.rows.specs.Helper.{coord_of, linear_axis_of, coupled_step_of, coupled_axis_of}
use Rattle.rows.specs.Makers.{TwoBodies, ErpCfm, assemble_of, lock_linear_of, limit_bounds_of, limit_bias_of, limit_linear_of, limit_linear_coupled_of, limited_target_vel_of, motor_rhs_of, motor_bounds_of, motor_row_of, motor_linear_of, motor_linear_coupled_of}
use Rattle.rows.specs.declared.integration_parameters.IntegrationParameters.{IntegrationParameters}
use Rattle.rows.specs.declared.joint_velocity_constraint.MotorParameters.{MotorParameters}
use Rattle.rows.specs.declared.joint_constraint_helper.JointConstraintHelper.{JointConstraintHelper}
use Rattle.rows.specs.declared.joint_constraint_helper.RowAxis.{RowAxis}
use Rattle.rows.specs.declared.joint_constraint_helper.LimitEnds.{LimitEnds}

-- ---- uncoupled

module _ (h : JointConstraintHelper) (p : IntegrationParameters) (bodies : TwoBodies) (i : ℕ) where
  pub limit-linear-is : (limits : LimitEnds) (soft : ErpCfm)
      → limit_linear_of h p bodies i limits soft
      ≡ assemble_of bodies (linear_axis_of h i) (limit_bounds_of (linear_axis_of h i).dist limits.min limits.max)
      (record { rhs = bits 0 ⊕ limit_bias_of p (linear_axis_of h i).dist limits.min limits.max soft.erp_inv_dt; rhs_wo_bias = bits 0; cfm_coeff = soft.cfm_coeff; cfm_gain = bits 0 })
  unfolding limit_linear_of lock_linear_of assemble_of linear_axis_of
  limit-linear-is limits soft = refl

  pub motor-linear-is : (m : MotorParameters) (limits : Option LimitEnds)
      → motor_linear_of h p bodies i m limits ≡ motor_row_of bodies (linear_axis_of h i) m (motor_rhs_of p m limits (linear_axis_of h i).dist)
  unfolding motor_linear_of motor_row_of lock_linear_of assemble_of linear_axis_of
  motor-linear-is m limits = refl

-- ---- coupled: the Rust's loop

-- a sum with one more term, where the axis is coupled
abbrev added_vector : Bool → Vector → Vector → Vector
added_vector coupled sum term = cond coupled (add_of sum term) sum

abbrev added : Bool → Float → Float → Float
added coupled sum term = cond coupled (sum ⊕ term) sum

module _ (h : JointConstraintHelper) (coupled : ℕ) where
  abbrev coeff : ℕ → Float
  coeff i = gdot_of (column_of h.basis i) h.lin_err

  -- `lin_jac`, `ang_jac1` and `ang_jac2` after the loop over axes 0 and 1
  abbrev pub lin_sum : Vector
  lin_sum =
      added_vector (has_axis coupled 1)
      (added_vector (has_axis coupled 0) (record { x = bits 0; y = bits 0 }) (mul_of (column_of h.basis 0) (coeff 0))) (mul_of (column_of h.basis 1) (coeff 1))

  abbrev pub ang_sum : Vector → Float
  ang_sum cmat = added (has_axis coupled 1) (added (has_axis coupled 0) (bits 0) (coord_of cmat 0 ⊗ coeff 0)) (coord_of cmat 1 ⊗ coeff 1)

  abbrev pub dist : Float
  dist = length_of lin_sum

  abbrev pub coupled_axis : RowAxis
  coupled_axis = record {
    dist = dist;
    lin_jac = mul_of lin_sum (simd_inv_of dist);
    ang_jac1 = ang_sum h.cmat1_basis ⊗ simd_inv_of dist;
    ang_jac2 = ang_sum h.cmat2_basis ⊗ simd_inv_of dist;
  }

  pub coupled-axis-is : coupled_axis_of h coupled ≡ coupled_axis
  unfolding coupled_axis_of coupled_step_of
  coupled-axis-is = go (has_axis coupled 0) (has_axis coupled 1) refl refl
    where
      go : (a b : Bool) → has_axis coupled 0 ≡ a → has_axis coupled 1 ≡ b → coupled_axis_of h coupled ≡ coupled_axis
      go true true e f = rw (e, f)
      go true false e f = rw (e, f)
      go false true e f = rw (e, f)
      go false false e f = rw (e, f)

module _ (h : JointConstraintHelper) (p : IntegrationParameters) (bodies : TwoBodies) (coupled : ℕ) where
  pub limit-linear-coupled-is : (limits : LimitEnds) (soft : ErpCfm)
      → limit_linear_coupled_of h p bodies coupled limits soft
      ≡ (
      let lin_jac = mul_of (lin_sum h coupled) (simd_inv_of (dist h coupled)) in
      let ang_jac1 = ang_sum h coupled h.cmat1_basis ⊗ simd_inv_of (dist h coupled) in
      let ang_jac2 = ang_sum h coupled h.cmat2_basis ⊗ simd_inv_of (dist h coupled) in
      let rhs_wo_bias = min_of (dist h coupled ⊖ limits.max) (bits 0) ⊗ inv_dt_of p in
      let max_bias = max_corrective_velocity_of p in
      let rhs_bias = clamp_of (max_of (dist h coupled ⊖ limits.max) (bits 0) ⊗ soft.erp_inv_dt) (neg max_bias) max_bias in
      record {
        impulse = bits 0;
        impulse_min = bits 0;
        impulse_max = inf false;
        lin_jac = lin_jac;
        ang_jac1 = ang_jac1;
        ang_jac2 = ang_jac2;
        ii_ang_jac1 = transform_vector_of bodies.body1.ii ang_jac1;
        ii_ang_jac2 = transform_vector_of bodies.body2.ii ang_jac2;
        inv_lhs = bits 0;
        rhs = rhs_wo_bias ⊕ rhs_bias;
        rhs_wo_bias = rhs_wo_bias;
        cfm_gain = bits 0;
        cfm_coeff = soft.cfm_coeff;
        im1 = bodies.body1.im;
        im2 = bodies.body2.im;
      }
      )
  unfolding limit_linear_coupled_of assemble_of
  limit-linear-coupled-is limits soft = rw (coupled-axis-is h coupled)

  pub motor-linear-coupled-is : (m : MotorParameters) (limits : Option LimitEnds)
      → motor_linear_coupled_of h p bodies coupled m limits
      ≡ (
      let lin_jac = mul_of (lin_sum h coupled) (simd_inv_of (dist h coupled)) in
      let ang_jac1 = ang_sum h coupled h.cmat1_basis ⊗ simd_inv_of (dist h coupled) in
      let ang_jac2 = ang_sum h coupled h.cmat2_basis ⊗ simd_inv_of (dist h coupled) in
      let spring = cond (ne m.erp_inv_dt (bits 0)) (bits 0 ⊕ (dist h coupled ⊖ m.target_pos) ⊗ m.erp_inv_dt) (bits 0) in
      let target_vel = limited_target_vel_of m.target_vel limits (dist h coupled) (inv_dt_of p) in
      record {
        impulse = bits 0;
        impulse_min = neg m.max_impulse;
        impulse_max = m.max_impulse;
        lin_jac = lin_jac;
        ang_jac1 = ang_jac1;
        ang_jac2 = ang_jac2;
        ii_ang_jac1 = transform_vector_of bodies.body1.ii ang_jac1;
        ii_ang_jac2 = transform_vector_of bodies.body2.ii ang_jac2;
        inv_lhs = bits 0;
        rhs = spring ⊕ neg target_vel;
        rhs_wo_bias = spring ⊕ neg target_vel;
        cfm_gain = m.cfm_gain;
        cfm_coeff = m.cfm_coeff;
        im1 = bodies.body1.im;
        im2 = bodies.body2.im;
      }
      )
  unfolding motor_linear_coupled_of motor_row_of motor_rhs_of motor_bounds_of assemble_of
  motor-linear-coupled-is m limits = rw (coupled-axis-is h coupled)
