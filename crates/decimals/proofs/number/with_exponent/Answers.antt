-- `with_exponent` meets its contract: the power of ten and the digits after the point are taken together.
use mathlib.Core.Path.{◌∙◌}
use mathlib.Core.Bool.{false}
use native.Mathlib.Omega.{arith}
use Rattle.decimals.proofs.DecimalLaws.{cancel-up, cancel-down}
use Rattle.decimals.proofs.number.with_exponent.Goals as goal

pub returns-then-f-e : goal.returns-then-f-e
returns-then-f-e c = c.upward.ensures ∙ cancel-up false _ _ _ c.if-f-e.true

pub returns : goal.returns
returns c = c.downward.ensures ∙ cancel-down false _ _ _ (omega arith)
