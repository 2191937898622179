-- `times_ten` meets its contract: the power in two parts.
use mathlib.Core.Path.{◌∙◌}
use native.Mathlib.Omega.{arith}
use Rattle.decimals.specs.Limbs.{value}
use Rattle.decimals.proofs.PowerLaws.{parts-room, second-room, second-part}
use Rattle.decimals.proofs.big.times_ten.Goals as goal

pub times_power-requires : goal.times_power-requires
times_power-requires c = (omega arith, parts-room (value c.args.a) 10 9 c.args.n _ (omega arith) c.requires)

pub times_power-requires-2 : goal.times_power-requires-2
times_power-requires-2 c = (omega arith, second-room (value c.args.a) 10 9 c.args.n _ _ c.times_power.ensures c.requires)

pub returns : goal.returns
returns c = c.times_power-2.ensures ∙ second-part (value c.args.a) 10 9 c.args.n _ c.times_power.ensures
