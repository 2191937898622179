-- `count_at` meets its contract, by those of `row_masks_at` and `row_count`.
use Rattle.multibody.proofs.joint_rows.count_at.Goals as goal

pub returns : goal.returns
returns g c = record { value = c.row_count.ensures.value _ _ c.row_masks_at.ensures; few = c.row_count.ensures.few }
