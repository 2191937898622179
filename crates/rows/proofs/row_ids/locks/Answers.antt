-- `locks` meets its contract, by the table of all masks below 8.
use mathlib.Core.Path.{◌∙◌}
use native.Mathlib.Omega.{arith}
use Rattle.rows.specs.RowIds.{has_axis}
use Rattle.rows.proofs.RowSlotsLaws.{turn-own, axes-lt}
use Rattle.rows.proofs.row_ids.locks.Goals as goal

pub returns : goal.returns
returns c =
    let m = c.args.locked in
    let e = c.in_order.ensures ∙ turn-own m in
    record { value = e; upper_bound = omega (arith, e, axes-lt (λ i. has_axis m i)) }
