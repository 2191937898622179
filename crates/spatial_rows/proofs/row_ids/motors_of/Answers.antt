-- `motors_of` meets its contract.
use native.Mathlib.Omega.{arith}
use lib.Count.{ones-le}
use Prim.Native.Nat.{◌%◌}
use Rattle.spatial_rows.proofs.row_ids.motors_of.Goals as goal

pub overflow_cast-result : goal.overflow_cast-result
overflow_cast-result c = record { fits = omega (arith, ones-le 3 (c.args.slots % 8) (omega arith)) }
