-- `bits_word` meets its contract.
use mathlib.Core.Path.{◌∙◌}
use Rattle.decimals.proofs.WordLaws.{bits-ten, bits-other}
use Rattle.decimals.proofs.number.bits_word.Goals as goal

pub returns-then-word-eq10 : goal.returns-then-word-eq10
returns-then-word-eq10 c = c.hex_digits.ensures ∙ bits-ten _ c.if-word-eq10.true

pub returns : goal.returns
returns c = bits-other _ c.if-word-eq10.false
