-- `first_coupled_lin_axis_id` meets its contract: the trailing zeros of the two lowest bits are the lowest axis of the two that is coupled, or 32.
use native.Mathlib.Omega.{arith}
use lib.Bits.{bit_and}
use lib.Count.{trailing_le}
use Rattle.rows.proofs.MaskBits.{first-coupled}
use Rattle.rows.proofs.generic_joint.Masks.first_coupled_lin_axis_id.Goals as goal

pub overflow_cast-result : goal.overflow_cast-result
overflow_cast-result c = record { fits = omega (arith, trailing_le 32 (bit_and c.args.self.coupled_axes 3)) }

pub returns : goal.returns
returns c = first-coupled c.args.self.coupled_axes
