-- A joint in space has at most nine rows (`at-most-nine`): an instance, at three linear and three angular axes, of the count for any number of axes. Assumes nothing.
use Prim.Native.Nat.{◌≤◌}
use lib.ListN.{length}
use Rattle.rows.specs.RowIds.{row_ids}
use Rattle.rows.specs.declared.generic_joint.Masks.{Masks}
use Rattle.rows.proofs.RowIdsCount.{at-most-with-angular-locks}
use Rattle.spatial_rows.specs.SpatialMasks.{spatial_masks}
use Rattle.spatial_rows.proofs.SpatialMasksLaws.{no-axis}

pub at-most-nine : (k : Masks) → length (row_ids 3 3 (spatial_masks k)) ≤ 9
at-most-nine k = at-most-with-angular-locks 3 3 (spatial_masks k) (λ i h. rw (no-axis k.motor_axes i h)) (λ i h. rw (no-axis k.limit_axes i h))
