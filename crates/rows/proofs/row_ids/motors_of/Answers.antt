-- `motors_of` meets its contract.
use native.Mathlib.Omega.{arith}
use Rattle.rows.proofs.RowSlotsLaws.{few_ones}
use Rattle.rows.proofs.row_ids.motors_of.Goals as goal

pub overflow_cast-result : goal.overflow_cast-result
overflow_cast-result c = record { fits = omega (arith, few_ones c.args.slots) }
