-- `snapped` meets its contract: each answer is the case that the test left.
use mathlib.Core.Path.{sym, ◌∙◌}
use Rattle.spatial_rows.specs.Helper.{snapped_of}
use Rattle.spatial_rows.proofs.joint_constraint_helper.snapped.Goals as goal

pub returns-then-has_axis : goal.returns-then-has_axis
unfolding snapped_of
returns-then-has_axis c =
    simp (sym c.has_axis.ensures ∙ c.if-has_axis.true) (cc)

pub returns-else-has_axis : goal.returns-else-has_axis
unfolding snapped_of
returns-else-has_axis c = simp (sym c.has_axis.ensures ∙ c.if-has_axis.false)
