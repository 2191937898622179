-- `motor_limits` meets its contract: each answer is the case that the test left.
use mathlib.Core.Path.{sym, ◌∙◌}
use Rattle.rows.specs.Update.{motor_limits_of}
use Rattle.rows.proofs.joint_velocity_constraint.motor_limits.Goals as goal

pub returns-then-is_limit : goal.returns-then-is_limit
unfolding motor_limits_of
returns-then-is_limit c = simp (sym c.is_limit.ensures ∙ c.if-is_limit.true) (cc)

pub returns-else-is_limit : goal.returns-else-is_limit
unfolding motor_limits_of
returns-else-is_limit c = simp (sym c.is_limit.ensures ∙ c.if-is_limit.false)
