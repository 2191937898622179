use mathlib.Core.Path.{◌∙◌}
use Rattle.spatial_rows.proofs.NineRows.{at-most-nine}
use Rattle.multibody.specs.JointRows.{joint_ids, row_count}
use Rattle.spatial_model.proofs.MaskLaws.{row_masks_at-spatial}
use Rattle.spatial_model.proofs.space.SpaceKind.row_count.Goals as goal

pub returns : goal.returns
unfolding joint_ids row_count
returns c = record { value = λ words j e. c.row_count.ensures ∙ rw (e, row_masks_at-spatial); few = rw c.row_count.ensures (at-most-nine c.args.masks) }
