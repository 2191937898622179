-- `limited_target_vel` meets its contract, by the two cases of the limits.
use Rattle.floats.proofs.ScalarLaws.{clamped-value}
use Rattle.rows.specs.Makers.{limited_target_vel_of}
use Rattle.rows.proofs.joint_constraint_helper.limited_target_vel.Goals as goal

pub returns-in-Some : goal.returns-in-Some
unfolding limited_target_vel_of
returns-in-Some c = simp (c.in-Some.is, c.clamp.ensures, clamped-value)

pub returns-in-None : goal.returns-in-None
unfolding limited_target_vel_of
returns-in-None c = simp c.in-None.is
