-- Which rule a row comes from: document 01, "Which rows, in which order". A linear axis whose coupled bit is set makes the coupled row.
use Rattle.std.specs.Prelude.{ℕ, cond, eqb}
use Rattle.rows.specs.RowIds.{has_axis}
use Rattle.rows.specs.declared.joint_velocity_constraint.WritebackId.{WritebackId}
use Rattle.rows.specs.declared.joint_velocity_constraint.WritebackId.TheVariants.{Dof, Limit, Motor}
use Rattle.study_text.specs.declared.rules.Rule.{Rule}
use Rattle.study_text.specs.declared.rules.Rule.TheVariants.{Motor2, Motor0, Motor1, MotorF, Dof2, Dof0, Dof1, Limit2, Limit0, Limit1, LimitF}

abbrev pub motor_rule : ℕ → ℕ → Rule
motor_rule i coupled = cond (eqb i 2) Motor2 (cond (has_axis coupled i) MotorF (cond (eqb i 0) Motor0 Motor1))

abbrev pub dof_rule : ℕ → Rule
dof_rule i = cond (eqb i 2) Dof2 (cond (eqb i 0) Dof0 Dof1)

abbrev pub limit_rule : ℕ → ℕ → Rule
limit_rule i coupled = cond (eqb i 2) Limit2 (cond (has_axis coupled i) LimitF (cond (eqb i 0) Limit0 Limit1))

-- by the row's id and its joint's coupled axes
abbrev pub rule_of : WritebackId → ℕ → Rule
rule_of (Dof i) coupled = dof_rule i
rule_of (Limit i) coupled = limit_rule i coupled
rule_of (Motor i) coupled = motor_rule i coupled

-- its place in the order, from 0
abbrev pub index_of : Rule → ℕ
index_of Motor2 = 0
index_of Motor0 = 1
index_of Motor1 = 2
index_of MotorF = 3
index_of Dof2 = 4
index_of Dof0 = 5
index_of Dof1 = 6
index_of Limit2 = 7
index_of Limit0 = 8
index_of Limit1 = 9
index_of LimitF = 10
