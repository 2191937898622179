use mathlib.Core.Path.{ap, ◌∙◌}
use lib.ListN.{length}
use Rattle.rows.specs.RowIds.{group_one}
use Rattle.spatial_rows.specs.SpatialMasks.{spatial_masks}
use Rattle.multibody.specs.JointRows.{motor_count}
use Rattle.spatial_model.proofs.MaskLaws.{row_masks_at-spatial}
use Rattle.spatial_model.proofs.space.SpaceKind.motor_count.Goals as goal

pub returns : goal.returns
unfolding motor_count
returns c words j e = c.motor_count.ensures ∙ ap (λ k. length (group_one 3 3 k)) (ap spatial_masks e ∙ row_masks_at-spatial words j)
