-- `is_lock` meets its contract: where the first bound differs, the answer is false, and else it is the test of the second.
use Rattle.spatial_rows.specs.Finalize.{is_lock}
use Rattle.spatial_rows.proofs.joint_constraint_helper.JointConstraintRow.is_lock.Goals as goal

pub returns-then-self : goal.returns-then-self
unfolding is_lock
returns-then-self c = simp c.if-self.true

pub returns-else-self : goal.returns-else-self
unfolding is_lock
returns-else-self c = simp c.if-self.false
