-- `row_slots` meets its contract: the sum has a bit for each slot.
use native.Mathlib.Omega.{arith}
use Rattle.spatial_rows.specs.RowSlots.{slot_bits}
use Rattle.spatial_rows.proofs.RowSlotsLaws.{angular-locks, linear-locks}
use Rattle.spatial_rows.proofs.row_ids.row_slots.Goals as goal

pub returns : goal.returns
unfolding slot_bits
returns c =
    let locked = c.args.masks.locked_axes in
    omega (arith, c.unlocked-motors.ensures.value, c.unlocked-limits.ensures.value, angular-locks locked, linear-locks locked)
