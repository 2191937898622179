-- `outside` meets its contract, by the table of all masks below 8.
use mathlib.Core.Path.{◌∙◌}
use native.Mathlib.Omega.{arith}
use Rattle.rows.proofs.RowSlotsLaws.{out, turn-outside, axes-lt}
use Rattle.rows.proofs.row_ids.outside.Goals as goal

pub returns : goal.returns
returns c =
    let a = c.args in
    let e = c.in_order.ensures ∙ turn-outside a.mask a.locked a.coupled in
    record { value = e; upper_bound = omega (arith, e, axes-lt (out a.mask a.locked a.coupled)) }
