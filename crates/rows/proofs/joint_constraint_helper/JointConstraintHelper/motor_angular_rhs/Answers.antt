-- `motor_angular_rhs` meets its contract: each answer is the case that the test left.
use Rattle.rows.specs.Makers.{motor_angular_rhs_of}
use Rattle.rows.proofs.joint_constraint_helper.JointConstraintHelper.motor_angular_rhs.Goals as goal
use Rattle.rows.proofs.joint_constraint_helper.JointConstraintHelper.motor_angular_rhs.Goals.{then-motor_params, else-motor_params}

pub returns : goal.returns
unfolding motor_angular_rhs_of
returns c = elim c.if-motor_params.branch [ then-motor_params w ↦ simp w.if-motor_params.true (cc) | else-motor_params w ↦ simp w.if-motor_params.false (cc) ]
