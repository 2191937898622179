-- `from_bits` meets its contract: the test tells a NaN's pattern from the others.
use Rattle.std.proofs.Common.{sym}
use lib.Ieee.{of_bits, div}
use Rattle.floats.proofs.NanLaws.{nan_pattern, no-nan-pattern}
use Rattle.floats.proofs.bits.from_bits.Goals as goal

pub returns-then-b-gt2139095040 : goal.returns-then-b-gt2139095040
unfolding of_bits div
returns-then-b-gt2139095040 c = sym (nan_pattern _ c.if-b-gt2139095040.true)

pub float_from_bits-result : goal.float_from_bits-result
float_from_bits-result c = no-nan-pattern _ c.if-b-gt2139095040.false
