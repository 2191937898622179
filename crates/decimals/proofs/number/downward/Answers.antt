-- `downward` meets its contract: from 10^-65 on nothing is left of 19 digits.
use mathlib.Core.Path.{sym, ◌∙◌}
use mathlib.Core.Bool.{false}
use Rattle.decimals.proofs.DecimalLaws.{too_small}
use Rattle.decimals.proofs.ReadLaws.{float_zero}
use Rattle.decimals.proofs.number.downward.Goals as goal

pub returns-then-n-gt64 : goal.returns-then-n-gt64
returns-then-n-gt64 c = float_zero ∙ sym (too_small false _ _ c.requires c.if-n-gt64.true)

pub returns : goal.returns
returns c = c.from_bits.ensures ∙ c.scaled_down.ensures
