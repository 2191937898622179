-- The definitions of rows/specs/Makers that make rows, each beside its name: one table for what a line says and for what made its row.
use Rattle.std.specs.Prelude.{ℕ, List}
use Rattle.texts.specs.Ascii.{ascii}
use Rattle.rows.specs.Makers.{lock_linear_of, lock_angular_of, limit_linear_of, limit_linear_coupled_of, limit_angular_of, motor_linear_of, motor_linear_coupled_of, motor_angular_of}
use Rattle.rows.specs.Update.{bodies_of, erp_cfm_of, ends_at, motor_limits_of, motor_params_at}
use Rattle.rows.specs.declared.joint_velocity_constraint.JointConstraint.{JointConstraint}
use Rattle.rows.specs.declared.joint_velocity_constraint.RowContext.{RowContext}
use Rattle.study_text.specs.declared.rules.Rule.{Rule}
use Rattle.study_text.specs.declared.rules.Rule.TheVariants.{Motor2, Motor0, Motor1, MotorF, Dof2, Dof0, Dof1, Limit2, Limit0, Limit1, LimitF}

-- a name, and the row of axis i by the definition of that name
pub record Definition : Type 0 where
  pub name : List ℕ
  pub row : RowContext → ℕ → JointConstraint

abbrev pub lock_linear : Definition
lock_linear = record { name = ascii "lockLinearOf"; row = λ cx i. lock_linear_of cx.helper (bodies_of cx) i (erp_cfm_of cx) }

abbrev pub lock_angular : Definition
lock_angular = record { name = ascii "lockAngularOf"; row = λ cx i. lock_angular_of cx.helper (bodies_of cx) (erp_cfm_of cx) }

abbrev pub limit_linear : Definition
limit_linear = record { name = ascii "limitLinearOf"; row = λ cx i. limit_linear_of cx.helper cx.params (bodies_of cx) i (ends_at cx.joint i) (erp_cfm_of cx) }

abbrev pub limit_linear_coupled : Definition
limit_linear_coupled = record {
  name = ascii "limitLinearCoupledOf";
  row = λ cx i. limit_linear_coupled_of cx.helper cx.params (bodies_of cx) cx.joint.masks.coupled_axes (ends_at cx.joint i) (erp_cfm_of cx);
}

abbrev pub limit_angular : Definition
limit_angular = record { name = ascii "limitAngularOf"; row = λ cx i. limit_angular_of cx.helper cx.params (bodies_of cx) cx.ang_limit (erp_cfm_of cx) }

abbrev pub motor_linear : Definition
motor_linear = record {
  name = ascii "motorLinearOf";
  row = λ cx i. motor_linear_of cx.helper cx.params (bodies_of cx) i (motor_params_at cx i) (motor_limits_of cx.joint i);
}

abbrev pub motor_linear_coupled : Definition
motor_linear_coupled = record {
  name = ascii "motorLinearCoupledOf";
  row = λ cx i. motor_linear_coupled_of cx.helper cx.params (bodies_of cx) cx.joint.masks.coupled_axes (motor_params_at cx i) (motor_limits_of cx.joint i);
}

abbrev pub motor_angular : Definition
motor_angular = record { name = ascii "motorAngularOf"; row = λ cx i. motor_angular_of cx.helper (bodies_of cx) (motor_params_at cx i) }

-- the definition of a rule's rows
abbrev pub definition_of : Rule → Definition
definition_of Motor2 = motor_angular
definition_of Motor0 = motor_linear
definition_of Motor1 = motor_linear
definition_of MotorF = motor_linear_coupled
definition_of Dof2 = lock_angular
definition_of Dof0 = lock_linear
definition_of Dof1 = lock_linear
definition_of Limit2 = limit_angular
definition_of Limit0 = limit_linear
definition_of Limit1 = limit_linear
definition_of LimitF = limit_linear_coupled
