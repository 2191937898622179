-- `infinity` meets its contract: the division is computed.
use Rattle.std.proofs.Common.{refl}
use lib.Ieee.{of_bits, div}
use Rattle.floats.proofs.scalar.infinity.Goals as goal

pub returns : goal.returns
unfolding of_bits div
returns c = refl
