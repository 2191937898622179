-- `ids_at` meets its contract, by those of `row_masks_at` and `row_ids`.
use mathlib.Core.Path.{◌∙◌}
use Rattle.spatial_model.proofs.joint_rows.ids_at.Goals as goal

pub returns : goal.returns
returns c = c.row_ids.ensures ∙ rw c.row_masks_at.ensures
