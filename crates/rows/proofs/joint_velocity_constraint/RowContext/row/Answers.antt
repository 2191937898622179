-- `row` meets its contract, by the three kinds of an id.
use Rattle.rows.proofs.joint_velocity_constraint.RowContext.row.Goals as goal

pub returns-in-Dof : goal.returns-in-Dof
returns-in-Dof c = simp c.in-Dof.is c.dof_row.ensures

pub returns-in-Limit : goal.returns-in-Limit
returns-in-Limit c = simp c.in-Limit.is c.limit_row.ensures

pub returns-in-Motor : goal.returns-in-Motor
returns-in-Motor c = simp c.in-Motor.is c.motor_row.ensures
