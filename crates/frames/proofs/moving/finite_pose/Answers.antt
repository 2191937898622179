-- `finite_pose` meets its contract: each test is tried where those before it hold.
use Rattle.std.proofs.Common.{arith}
use Rattle.std.proofs.lemmas.Grind.{common_steps}
use Rattle.model.specs.Refusals.{finite_pose}
use Rattle.frames.proofs.moving.finite_pose.Goals as goal

pub returns-then-is_finite-3 : goal.returns-then-is_finite-3
unfolding finite_pose
returns-then-is_finite-3 c = grind (arith, common_steps)

pub returns-else-is_finite-3 : goal.returns-else-is_finite-3
unfolding finite_pose
returns-else-is_finite-3 c = grind (arith, common_steps)
