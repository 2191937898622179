-- `read_pose` meets its contract, by those of its parts.
use mathlib.Core.Path.{sym, ap, ◌∙◌}
use Rattle.rows.specs.declared.joint_constraint_builder.SolverPose.{SolverPose}
use Rattle.model.proofs.SingleRecordsLaws.{body-fits, pose-there, pose-absent}
use Rattle.model.proofs.single_records.read_pose.Goals as goal

pub solver_pose_at-requires : goal.solver_pose_at-requires
solver_pose_at-requires c ne = body-fits _ _ c.body_count.ensures c.if-i-body_count.true

pub returns-then-i-body_count : goal.returns-then-i-body_count
returns-then-i-body_count c =
    ap (λ (p : SolverPose). p.pose) c.solver_pose_at.ensures ∙ sym (pose-there _ _ c.body_count.ensures c.if-i-body_count.true)

pub returns : goal.returns
returns c = sym (pose-absent _ _ c.body_count.ensures c.if-i-body_count.false)
