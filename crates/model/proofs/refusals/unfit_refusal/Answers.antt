-- `unfit_refusal` meets its contract: rules 1 and 2 are tried, and then rule 3 fails.
use Rattle.multibody.proofs.MaskLaws.{unfit-bodies, unfit-joints, unfit-masks}
use Rattle.model.proofs.PlanarLaws.{planar-laws}
use Rattle.model.proofs.refusals.unfit_refusal.Goals as goal

pub returns-then-body_count-gt-MOST_BODIES : goal.returns-then-body_count-gt-MOST_BODIES
returns-then-body_count-gt-MOST_BODIES c header arguments = unfit-bodies planar-laws _ _ c.body_count.ensures c.if-body_count-gt-MOST_BODIES.true

pub returns-then-joint_count-gt-MOST_JOINTS : goal.returns-then-joint_count-gt-MOST_JOINTS
returns-then-joint_count-gt-MOST_JOINTS c header arguments =
    unfit-joints planar-laws _ _ c.body_count.ensures c.joint_count.ensures c.if-body_count-gt-MOST_BODIES.false c.if-joint_count-gt-MOST_JOINTS.true

pub returns : goal.returns
returns c header arguments =
    unfit-masks planar-laws _ _ c.body_count.ensures c.joint_count.ensures c.if-body_count-gt-MOST_BODIES.false c.if-joint_count-gt-MOST_JOINTS.false
