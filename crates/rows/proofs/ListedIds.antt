-- The loop of `row_ids`: the ids before k stand in the array, and the slots that are left are those of the ids from k on. For any number of slots and any
-- length of the array; then for a planar joint (`listed_start`, `listed-array`). Assumes nothing.
use Prim.Native.Nat.{ℕ, ◌+◌, ◌-◌, ◌^◌, ◌≤◌, ◌<◌}
use native.Mathlib.Omega.{arith}
use mathlib.Core.Path.{◌≡◌, refl, ap, sym, ◌∙◌}
use mathlib.Core.Bool.{cond}
use mathlib.Core.List.{List, [], ◌∷◌, map}
use lib.Bits.{bit_and}
use lib.Count.{count_trailing_zeros}
use lib.Dec.{ltb}
use lib.ListN.{length, get_or, set, take, drop, length-drop}
use lib.Seq.{take_all}
use Rattle.rows.specs.declared.generic_joint.Masks.{Masks}
use Rattle.rows.specs.declared.joint_velocity_constraint.WritebackId.{WritebackId}
use Rattle.rows.specs.declared.joint_velocity_constraint.WritebackId.TheVariants.{Dof}
use Rattle.rows.specs.declared.row_ids.RowId.{RowId}
use Rattle.rows.specs.declared.row_ids.RowIds.{RowIds}
use Rattle.rows.specs.RowIds.{first_coupled, group_one, row_ids, row_id, ids_filled, row_ids_array}
use Rattle.rows.specs.RowSlots.{slot_id, slot_bits}
use Rattle.rows.proofs.Filled.{push-mapped}
use Rattle.rows.proofs.RowIdsCount.{at-most-six}
use Rattle.rows.proofs.RowSlotsLaws.{slots_from, lowest-slot, cleared-less, slot_bits-lt, slot-ids}
use Rattle.rows.proofs.WarmedRows.{next-id, no-slots}

-- `most` is the array's length, `slots` the number of slots, of which `slot` gives the ids
pub record Listed (most slots : ℕ) (slot : ℕ → WritebackId) (is : List WritebackId) (ids : List RowId) (left k : ℕ) : Type 0 where
  pub reached : k ≤ length is
  pub few : length is ≤ most
  pub narrow : slots ≤ 32
  pub slots-left : left < 2 ^ slots
  pub ids-left : map slot (slots_from slots 0 left) ≡ drop k is
  pub so_far : ids ≡ ids_filled most (take k is)

module _ {most slots : ℕ} {slot : ℕ → WritebackId} {is : List WritebackId} {ids : List RowId} {left k : ℕ} (s : Listed most slots slot is ids left k) where
  -- the id of the lowest slot is the next one
  next : 0 < left → (k < length is) × (get_or is k (slot (count_trailing_zeros 32 left)) ≡ slot (count_trailing_zeros 32 left)) × (drop (k + 1) is ≡ map slot (slots_from slots 0 (bit_and left (left - 1))))
  next g = next-id is k _ _ (sym (ap (map slot) (lowest-slot slots left s.narrow g s.slots-left)) ∙ s.ids-left)

  pub room : 0 < left → k < most
  room g = omega (arith, (next g).0, s.few)

  pub listed-turn : {y : RowId} → 0 < left → y ≡ row_id (slot (count_trailing_zeros 32 left)) → Listed most slots slot is (set ids k y) (bit_and left (left - 1)) (k + 1)
  listed-turn {y} g v =
      let there = next g in
      record {
        reached = omega (arith, there.0);
        few = s.few;
        narrow = s.narrow;
        slots-left = omega (arith, s.slots-left, cleared-less left g);
        ids-left = sym there.2;
        so_far = push-mapped row_id (row_id (Dof 0)) most is k (slot (count_trailing_zeros 32 left)) ids y (room g) there.0 s.so_far (v ∙ ap row_id (sym there.1));
      }

  -- after the last turn
  pub all_listed : left ≤ 0 → k ≡ length is
  all_listed h =
      let z : left ≡ 0 = omega arith in
      omega (arith, s.reached, ap length (rw z at s.ids-left), no-slots slot slots 0, length-drop k is)

  pub listed-end : left ≤ 0 → ids ≡ ids_filled most is
  listed-end h = s.so_far ∙ ap (ids_filled most) (take_all k is (omega (arith, all_listed h)))

-- ---- a planar joint; f is F

abbrev pub PlanarListed : Masks → ℕ → List RowId → ℕ → ℕ → Type 0
PlanarListed masks f = Listed 6 11 (λ s. slot_id s f) (row_ids 2 1 masks)

-- before the first turn
pub listed_start : (k : Masks) (f : ℕ) → first_coupled 2 k ≡ cond (ltb f 2) (f ∷ []) [] → PlanarListed k f (ids_filled 6 []) (slot_bits k) 0
listed_start k f e = record { reached = omega arith; few = at-most-six k; narrow = omega arith; slots-left = slot_bits-lt k; ids-left = slot-ids k f e; so_far = refl }

-- the array that is returned
pub listed-array : (masks : Masks) (ids : List RowId) (first len : ℕ) → ids ≡ ids_filled 6 (row_ids 2 1 masks) → first ≡ length (group_one 2 1 masks)
    → len ≡ length (row_ids 2 1 masks) → ◌≡◌ {A = RowIds} (record { ids = ids; first = first; len = len }) (row_ids_array masks)
unfolding row_ids_array
listed-array masks ids first len e f g = simp (e, f, g)
