-- `solver_body` computes what its definition says.
use mathlib.Core.Path.{refl}
use Rattle.rows.specs.Builder.{solver_body_of}
use Rattle.rows.proofs.joint_constraint_builder.SolverPose.solver_body.Goals as goal

pub returns : goal.returns
unfolding solver_body_of
returns c = refl
