-- `max_impulse` meets its contract: each answer is the case that the test left.
use Rattle.rows.specs.GenericJoint.{max_impulse_of}
use Rattle.rows.proofs.generic_joint.JointMotor.max_impulse.Goals as goal

pub returns-then-dt : goal.returns-then-dt
unfolding max_impulse_of
returns-then-dt c = simp c.if-dt.true

pub returns-else-dt : goal.returns-else-dt
unfolding max_impulse_of
returns-else-dt c = simp c.if-dt.false
