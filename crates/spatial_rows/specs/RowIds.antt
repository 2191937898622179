-- The ids of a joint in space, those of the crate rows at three linear and three angular axes, as an array of nine, the rest filled up.
use Rattle.std.specs.Prelude.{ℕ, List, length}
use Rattle.rows.specs.RowIds.{group_one, row_ids, ids_filled}
use Rattle.rows.specs.declared.generic_joint.Masks.{Masks}
use Rattle.rows.specs.declared.joint_velocity_constraint.WritebackId.{WritebackId}
use Rattle.spatial_rows.specs.SpatialMasks.{spatial_masks}
use Rattle.spatial_rows.specs.declared.row_ids.RowIds.{RowIds}

-- a list of ids as an array, of which the first n are group one
abbrev pub ids_array : ℕ → List WritebackId → RowIds
ids_array n l = record { ids = ids_filled 9 l; first = n; len = length l }

-- the spatial joint's ids as an array
unfoldable pub row_ids_array : Masks → RowIds
row_ids_array k = ids_array (length (group_one 3 3 (spatial_masks k))) (row_ids 3 3 (spatial_masks k))
