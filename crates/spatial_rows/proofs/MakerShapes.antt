-- The makers of linear limits and motors as one literal (`limit-linear-is`, `motor-linear-is`), where their definitions overwrite fields of the lock's row, as the Rust does.
-- Assumes nothing.
use Rattle.std.specs.Prelude.{Option}
use Prim.Native.Nat.{ℕ}
use mathlib.Core.Path.{◌≡◌, refl}
use Rattle.floats.specs.Operators.{bits, ◌⊕◌}
use Rattle.rows.specs.Makers.{ErpCfm, limit_bounds_of, limit_bias_of, motor_rhs_of}
use Rattle.rows.specs.declared.integration_parameters.IntegrationParameters.{IntegrationParameters}
use Rattle.rows.specs.declared.joint_velocity_constraint.MotorParameters.{MotorParameters}
use Rattle.rows.specs.declared.joint_constraint_helper.LimitEnds.{LimitEnds}
use Rattle.spatial_rows.specs.Helper.{linear_axis_of}
use Rattle.spatial_rows.specs.Makers.{TwoBodies, assemble_of, lock_linear_of, limit_linear_of, motor_row_of, motor_linear_of}
use Rattle.spatial_rows.specs.declared.joint_constraint_helper.JointConstraintHelper.{JointConstraintHelper}

module _ (h : JointConstraintHelper) (p : IntegrationParameters) (bodies : TwoBodies) (i : ℕ) where
  pub limit-linear-is : (limits : LimitEnds) (soft : ErpCfm)
      → limit_linear_of h p bodies i limits soft
      ≡ assemble_of bodies (linear_axis_of h i) (limit_bounds_of (linear_axis_of h i).dist limits.min limits.max)
      (record { rhs = bits 0 ⊕ limit_bias_of p (linear_axis_of h i).dist limits.min limits.max soft.erp_inv_dt; rhs_wo_bias = bits 0; cfm_coeff = soft.cfm_coeff; cfm_gain = bits 0 })
  unfolding limit_linear_of lock_linear_of assemble_of linear_axis_of
  limit-linear-is limits soft = refl

  pub motor-linear-is : (m : MotorParameters) (limits : Option LimitEnds)
      → motor_linear_of h p bodies i m limits ≡ motor_row_of bodies (linear_axis_of h i) m (motor_rhs_of p m limits (linear_axis_of h i).dist)
  unfolding motor_linear_of motor_row_of lock_linear_of assemble_of linear_axis_of
  motor-linear-is m limits = refl
