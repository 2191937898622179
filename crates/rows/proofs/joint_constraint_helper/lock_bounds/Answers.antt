-- `lock_bounds` computes what its definition says.
use mathlib.Core.Path.{refl}
use Rattle.rows.specs.Makers.{lock_bounds}
use Rattle.rows.proofs.joint_constraint_helper.lock_bounds.Goals as goal

pub returns : goal.returns
unfolding lock_bounds
returns c = refl
