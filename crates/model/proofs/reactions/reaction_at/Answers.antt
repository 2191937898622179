-- `reaction_at` is put together from what its callees promise.
use Rattle.model.specs.Reactions.{reaction_at}
use Rattle.model.proofs.reactions.reaction_at.Goals as goal

pub returns : goal.returns
unfolding reaction_at
returns c =
    simp (
      c.joint_reaction.ensures,
      c.read_joint-joint.ensures,
      c.read_pose-pose2.ensures,
      c.read_body2.ensures,
      c.read_pose-pose1.ensures,
      c.read_body1.ensures,
    )
