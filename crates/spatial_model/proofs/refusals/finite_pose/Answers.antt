-- `finite_pose` meets its contract: each test is tried where those before it hold.
use mathlib.Core.Path.{sym, ◌∙◌}
use Rattle.spatial_model.specs.Refusals.{finite_pose}
use Rattle.spatial_model.proofs.refusals.finite_pose.Goals as goal

pub returns-then-finite_rotation : goal.returns-then-finite_rotation
unfolding finite_pose
returns-then-finite_rotation c = rw (sym c.finite_rotation.ensures ∙ c.if-finite_rotation.true) c.finite_vector.ensures

pub returns-else-finite_rotation : goal.returns-else-finite_rotation
unfolding finite_pose
returns-else-finite_rotation c = rw (sym c.finite_rotation.ensures ∙ c.if-finite_rotation.false) c.if-finite_rotation.false
