-- `grown` meets its contract: below 10^18 one more digit is below 10^19.
use mathlib.Core.Path.{sym}
use native.Mathlib.Omega.{arith}
use Rattle.decimals.proofs.CapLaws.{cap-small, cap-large}
use Rattle.decimals.proofs.digits.grown.Goals as goal

pub returns-then-v-lt1000000000000000000 : goal.returns-then-v-lt1000000000000000000
returns-then-v-lt1000000000000000000 c = sym (cap-small _ (omega (arith, c.requires)))

pub returns-else-v-lt1000000000000000000 : goal.returns-else-v-lt1000000000000000000
returns-else-v-lt1000000000000000000 c = sym (cap-large _ (omega (arith, c.if-v-lt1000000000000000000.false)))
