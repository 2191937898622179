-- `row_count` meets its contract: there are as many rows as slots.
use mathlib.Core.Path.{ap, ◌∙◌}
use native.Mathlib.Omega.{arith}
use lib.Count.{ones}
use Rattle.rows.proofs.RowIdsCount.{at-most-six}
use Rattle.rows.proofs.RowSlotsLaws.{slots-count}
use Rattle.rows.proofs.row_ids.row_count.Goals as goal

pub returns : goal.returns
returns c = ap ones c.row_slots.ensures ∙ slots-count c.args.masks

pub overflow_cast-result : goal.overflow_cast-result
overflow_cast-result c = record { fits = omega (arith, returns c, at-most-six c.args.masks) }
