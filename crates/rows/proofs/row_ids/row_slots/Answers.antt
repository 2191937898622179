-- `row_slots` meets its contract: the sum has a bit for each slot.
use native.Mathlib.Omega.{arith}
use mathlib.Core.Path.{ap}
use Rattle.rows.specs.RowSlots.{slot_bits}
use Rattle.rows.proofs.RowIdsCount.{bit, byte-bit, byte_le}
use Rattle.rows.proofs.row_ids.row_slots.Goals as goal

pub overflow_cast-coupled_motor : goal.overflow_cast-coupled_motor
overflow_cast-coupled_motor c = tt

pub overflow_cast-coupled_limit : goal.overflow_cast-coupled_limit
overflow_cast-coupled_limit c = tt

pub overflow_mul-result : goal.overflow_mul-result
overflow_mul-result c = record { fits = omega (arith, byte_le c.shares_linear-coupled_motor.result, byte_le c.has_coupled_limit-coupled_limit.result) }

pub overflow_add-result : goal.overflow_add-result
overflow_add-result c = record { fits = omega (arith, byte_le c.shares_linear-coupled_motor.result, byte_le c.has_coupled_limit-coupled_limit.result) }

pub overflow_add-result-2 : goal.overflow_add-result-2
overflow_add-result-2 c = record { fits = omega (arith, byte_le c.shares_linear-coupled_motor.result, byte_le c.has_coupled_limit-coupled_limit.result) }

pub overflow_add-result-3 : goal.overflow_add-result-3
overflow_add-result-3 c = record { fits = omega (arith, byte_le c.shares_linear-coupled_motor.result, byte_le c.has_coupled_limit-coupled_limit.result) }

pub overflow_mul-result-4 : goal.overflow_mul-result-4
overflow_mul-result-4 c = record { fits = omega (arith, byte_le c.shares_linear-coupled_motor.result, byte_le c.has_coupled_limit-coupled_limit.result) }

pub overflow_add-result-4 : goal.overflow_add-result-4
overflow_add-result-4 c = record { fits = omega (arith, byte_le c.shares_linear-coupled_motor.result, byte_le c.has_coupled_limit-coupled_limit.result) }

pub returns : goal.returns
unfolding slot_bits
returns c =
    omega (
      arith,
      c.outside-motors.ensures.value,
      c.outside-limits.ensures.value,
      c.locks-locked_bits.ensures.value,
      byte-bit c.shares_linear-coupled_motor.result,
      byte-bit c.has_coupled_limit-coupled_limit.result,
      ap bit c.shares_linear-coupled_motor.ensures,
      ap bit c.has_coupled_limit-coupled_limit.ensures,
    )
