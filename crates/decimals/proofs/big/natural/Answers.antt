-- `natural` meets its contract: the two limbs of a 64-bit number.
use native.Mathlib.Omega.{arith}
use Rattle.decimals.specs.Limbs.{value}
use Rattle.decimals.proofs.big.natural.Goals as goal

pub returns : goal.returns
unfolding value
returns c = omega arith
