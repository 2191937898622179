-- `row_ids` meets its contract. The loop keeps `Listed`: the ids before k stand in the array.
use Rattle.spatial_rows.proofs.ListedIds.{SpatialListed}
use Rattle.spatial_rows.proofs.row_ids.row_ids.Given as goal

abbrev pub invariant-loop-left : goal.invariant-loop-left
invariant-loop-left l = SpatialListed l.masks l.ids l.left l.k

abbrev pub decreases-loop-left : goal.decreases-loop-left
decreases-loop-left l = l.left
