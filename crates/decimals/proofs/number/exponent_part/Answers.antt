-- `exponent_part` meets its contract, byte by byte.
use mathlib.Core.Path.{◌∙◌}
use Rattle.decimals.proofs.WordLaws.{letter, capital, no-letter, part_end}
use Rattle.decimals.proofs.number.exponent_part.Goals as goal
use Rattle.decimals.proofs.number.exponent_part.Goals.{then-b-eq101-via-then-b-eq101, then-b-eq101-via-else-b-eq101+then-b-eq69}

pub returns-then-b-eq101 : goal.returns-then-b-eq101
returns-then-b-eq101 c =
    elim c.then-b-eq101.branch [
      | then-b-eq101-via-then-b-eq101 w ↦ c.exponent_sign.ensures ∙ letter _ _ _ _ _ c.if-at-word.true w.if-b-eq101.true
      | then-b-eq101-via-else-b-eq101+then-b-eq69 w ↦ c.exponent_sign.ensures ∙ capital _ _ _ _ _ c.if-at-word.true w.if-b-eq101.false w.if-b-eq69.true
    ]

pub returns-then-at-word : goal.returns-then-at-word
returns-then-at-word c = no-letter _ _ _ _ _ c.if-at-word.true c.if-b-eq101.false c.if-b-eq69.false

pub returns : goal.returns
returns c = c.decimal.ensures ∙ part_end _ _ _ _ _ c.if-at-word.false
