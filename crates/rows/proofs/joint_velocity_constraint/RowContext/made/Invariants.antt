-- `made` meets its contract. The loop's invariant: the array holds the rows of the first k ids, and blank rows after them. That
-- there are six ids is what owning `ids` tells of its first field.
use mathlib.Core.Path.{◌≡◌}
use mathlib.Core.List.{map}
use lib.ListN.{length, take}
use Rattle.rows.specs.RowIds.{filled}
use Rattle.rows.specs.Update.{blank_row, row_of}
use Rattle.rows.proofs.joint_velocity_constraint.RowContext.made.Given as goal

abbrev pub invariant-loop-k : goal.invariant-loop-k
invariant-loop-k l =
    (length l.rows ≡ 6) × (l.rows ≡ filled 6 blank_row (map (λ i. row_of l.self i.id) (take l.k l.ids.ids)))
