-- `no_point` meets its contract.
use mathlib.Core.Path.{◌∙◌}
use Rattle.decimals.proofs.WordLaws.{nothing-before, something-before}
use Rattle.decimals.proofs.number.no_point.Goals as goal

pub returns-then-n-eq0 : goal.returns-then-n-eq0
returns-then-n-eq0 c = nothing-before _ _ _ _ c.if-n-eq0.true

pub returns : goal.returns
returns c = c.exponent_part.ensures ∙ something-before _ _ _ _ c.if-n-eq0.false
