-- The loop of `row_ids` in space, as the crate rows has it for any number of slots: before the first turn (`listed_start`), and the array that is returned (`listed-array`). Assumes nothing.
use Prim.Native.Nat.{ℕ}
use native.Mathlib.Omega.{arith}
use mathlib.Core.Path.{◌≡◌, refl}
use mathlib.Core.List.{List, []}
use lib.ListN.{length}
use Rattle.rows.specs.RowIds.{group_one, row_ids, ids_filled}
use Rattle.rows.specs.declared.generic_joint.Masks.{Masks}
use Rattle.rows.specs.declared.row_ids.RowId.{RowId}
use Rattle.rows.proofs.ListedIds.{Listed}
use Rattle.spatial_rows.specs.SpatialMasks.{spatial_masks}
use Rattle.spatial_rows.specs.RowIds.{row_ids_array}
use Rattle.spatial_rows.specs.RowSlots.{slot_id, slot_bits}
use Rattle.spatial_rows.specs.declared.row_ids.RowIds.{RowIds}
use Rattle.spatial_rows.proofs.NineRows.{at-most-nine}
use Rattle.spatial_rows.proofs.RowSlotsLaws.{slot_bits-lt, slot-ids}

abbrev pub SpatialListed : Masks → List RowId → ℕ → ℕ → Type 0
SpatialListed masks = Listed 9 12 slot_id (row_ids 3 3 (spatial_masks masks))

-- before the first turn
pub listed_start : (k : Masks) → SpatialListed k (ids_filled 9 []) (slot_bits k) 0
listed_start k = record { reached = omega arith; few = at-most-nine k; narrow = omega arith; slots-left = slot_bits-lt k; ids-left = slot-ids k; so_far = refl }

-- the array that is returned
pub listed-array : (masks : Masks) (ids : List RowId) (first len : ℕ) → ids ≡ ids_filled 9 (row_ids 3 3 (spatial_masks masks)) → first ≡ length (group_one 3 3 (spatial_masks masks))
    → len ≡ length (row_ids 3 3 (spatial_masks masks)) → ◌≡◌ {A = RowIds} (record { ids = ids; first = first; len = len }) (row_ids_array masks)
unfolding row_ids_array
listed-array masks ids first len e f g = simp (e, f, g)
