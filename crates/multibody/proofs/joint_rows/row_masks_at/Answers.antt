-- `row_masks_at` meets its contract, by those of its parts.
use Rattle.multibody.proofs.JointRowsLaws.{own-masks, no-masks}
use Rattle.multibody.proofs.joint_rows.row_masks_at.Goals as goal

pub returns-then-is_enabled : goal.returns-then-is_enabled
returns-then-is_enabled g c =
    own-masks (g.K.Kind.system.store) _ _ c.enabled_at.ensures c.is_enabled.ensures c.if-is_enabled.true c.masks_at.ensures

pub returns-else-is_enabled : goal.returns-else-is_enabled
returns-else-is_enabled g c =
    no-masks (g.K.Kind.system.store) _ _ c.enabled_at.ensures c.is_enabled.ensures c.if-is_enabled.false c.no_masks.ensures
