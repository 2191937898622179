-- `motor_limits` meets its contract: each answer is the case that the test left.
use mathlib.Core.Path.{sym, ap, ◌∙◌}
use Rattle.rows.specs.RowIds.{is_limit}
use Rattle.rows.specs.declared.generic_joint.Masks.{Masks}
use Rattle.spatial_rows.specs.Update.{motor_limits_of}
use Rattle.spatial_rows.proofs.joint_velocity_constraint.motor_limits.Goals as goal

pub returns-then-is_limit : goal.returns-then-is_limit
unfolding motor_limits_of
returns-then-is_limit c =
    simp (sym (c.is_limit.ensures ∙ ap (λ (k : Masks). is_limit k c.args.axis) c.spatial_masks-masks.ensures) ∙ c.if-is_limit.true) (cc)

pub returns-else-is_limit : goal.returns-else-is_limit
unfolding motor_limits_of
returns-else-is_limit c =
    simp (sym (c.is_limit.ensures ∙ ap (λ (k : Masks). is_limit k c.args.axis) c.spatial_masks-masks.ensures) ∙ c.if-is_limit.false)
