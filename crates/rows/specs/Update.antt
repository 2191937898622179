-- The Rust's joint_velocity_constraint.rs, `update`: a joint's rows, each group orthogonalised by itself.
use Rattle.std.specs.Prelude.{ℕ, cond, List, ◌++◌, map, eqb, length, take, Option, Some, None}
use Rattle.floats.specs.Operators.{bits}
use Rattle.floats.specs.declared.pose.Pose.{Pose}
use Rattle.rows.specs.IntegrationParameters.{erp_inv_dt_of, cfm_coeff_of}
use Rattle.rows.specs.GenericJoint.{limits_at, motor_at, motor_params_of}
use Rattle.rows.specs.RowIds.{is_limit, is_coupled, group_one, group_two, filled}
use Rattle.rows.specs.Helper.{new_of}
use Rattle.rows.specs.Makers.{TwoBodies, two_bodies, ErpCfm, erp_cfm, lock_linear_of, lock_angular_of, limit_linear_of, limit_linear_coupled_of, limit_angular_of, motor_linear_of, motor_linear_coupled_of, motor_angular_of}
use Rattle.rows.specs.Finalize.{finalize_of}
use Rattle.rows.specs.declared.integration_parameters.IntegrationParameters.{IntegrationParameters}
use Rattle.rows.specs.declared.generic_joint.GenericJoint.{GenericJoint}
use Rattle.rows.specs.declared.joint_constraint_helper.AngularLimitParams.{AngularLimitParams}
use Rattle.rows.specs.declared.joint_constraint_helper.LimitEnds.{LimitEnds}
use Rattle.rows.specs.declared.joint_velocity_constraint.MotorParameters.{MotorParameters}
use Rattle.rows.specs.declared.joint_velocity_constraint.JointConstraint.{JointConstraint}
use Rattle.rows.specs.declared.joint_velocity_constraint.RowContext.{RowContext}
use Rattle.rows.specs.declared.joint_velocity_constraint.Rows.{Rows}
use Rattle.rows.specs.declared.row_ids.RowId.{RowId}
use Rattle.rows.specs.declared.joint_velocity_constraint.WritebackId.{WritebackId}
use Rattle.rows.specs.declared.joint_velocity_constraint.WritebackId.TheVariants.{Dof, Limit, Motor}

-- what a joint's rows are made from
unfoldable pub context_of : IntegrationParameters → TwoBodies → Pose → Pose → GenericJoint → AngularLimitParams → RowContext
context_of params bodies frame1 frame2 joint ang_limit = record {
  params = params;
  body1 = bodies.body1;
  body2 = bodies.body2;
  helper = new_of frame1 frame2 bodies.body1.world_com bodies.body2.world_com joint.masks.locked_axes;
  joint = joint;
  ang_limit = ang_limit;
  erp_inv_dt = erp_inv_dt_of joint.softness params.dt;
  cfm_coeff = cfm_coeff_of joint.softness params.dt;
}

-- ---- what the makers take of it

abbrev pub bodies_of : RowContext → TwoBodies
bodies_of cx = two_bodies cx.body1 cx.body2

abbrev pub erp_cfm_of : RowContext → ErpCfm
erp_cfm_of cx = erp_cfm cx.erp_inv_dt cx.cfm_coeff

-- axis i's two ends
abbrev pub ends_at : GenericJoint → ℕ → LimitEnds
ends_at joint i = record { min = (limits_at joint i).min; max = (limits_at joint i).max }

-- axis i's limits for its linear motor: its two ends where T holds i
unfoldable pub motor_limits_of : GenericJoint → ℕ → Option LimitEnds
motor_limits_of joint i = cond (is_limit joint.masks i) (Some (ends_at joint i)) None

-- axis i's motor at the timestep
abbrev pub motor_params_at : RowContext → ℕ → MotorParameters
motor_params_at cx i = motor_params_of (motor_at cx.joint i) cx.params.dt

-- the row of an id. Axis 2 is the angular one; a coupled linear axis stands for all coupled ones.
unfoldable pub row_of : RowContext → WritebackId → JointConstraint
row_of cx (Dof i) =
    cond (eqb i 2)
    (lock_angular_of cx.helper (bodies_of cx) (erp_cfm_of cx))
    (lock_linear_of cx.helper (bodies_of cx) i (erp_cfm_of cx))
row_of cx (Limit i) =
    cond (eqb i 2)
    (limit_angular_of cx.helper cx.params (bodies_of cx) cx.ang_limit (erp_cfm_of cx))
    (cond (is_coupled cx.joint.masks i)
    (limit_linear_coupled_of cx.helper cx.params (bodies_of cx) cx.joint.masks.coupled_axes (ends_at cx.joint i) (erp_cfm_of cx))
    (limit_linear_of cx.helper cx.params (bodies_of cx) i (ends_at cx.joint i) (erp_cfm_of cx)))
row_of cx (Motor i) =
    cond (eqb i 2)
    (motor_angular_of cx.helper (bodies_of cx) (motor_params_at cx i))
    (cond (is_coupled cx.joint.masks i)
    (motor_linear_coupled_of cx.helper cx.params (bodies_of cx) cx.joint.masks.coupled_axes (motor_params_at cx i) (motor_limits_of cx.joint i))
    (motor_linear_of cx.helper cx.params (bodies_of cx) i (motor_params_at cx i) (motor_limits_of cx.joint i)))

-- `update`: the rows of group one, then those of group two
unfoldable pub update_of : RowContext → List JointConstraint
update_of cx =
    finalize_of (map (row_of cx) (group_one 2 1 cx.joint.masks))
    ++ finalize_of (map (row_of cx) (group_two 2 1 cx.joint.masks))

-- ---- the rows as an array of six, the rest filled up

abbrev pub blank_row : JointConstraint
blank_row = record {
  impulse = bits 0;
  impulse_min = bits 0;
  impulse_max = bits 0;
  lin_jac = record { x = bits 0; y = bits 0 };
  ang_jac1 = bits 0;
  ang_jac2 = bits 0;
  ii_ang_jac1 = bits 0;
  ii_ang_jac2 = bits 0;
  inv_lhs = bits 0;
  rhs = bits 0;
  rhs_wo_bias = bits 0;
  cfm_gain = bits 0;
  cfm_coeff = bits 0;
  im1 = record { x = bits 0; y = bits 0 };
  im2 = record { x = bits 0; y = bits 0 };
}

unfoldable pub rows_array : List JointConstraint → Rows
rows_array l = record { rows = filled 6 blank_row l; len = length l }

-- the rows of the first `count` ids of an array, before their groups are orthogonalised
unfoldable pub made_rows : RowContext → List RowId → ℕ → List JointConstraint
made_rows cx ids count = filled 6 blank_row (map (λ i. row_of cx i.id) (take count ids))
