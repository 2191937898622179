-- `exponent_sign` meets its contract, byte by byte.
use mathlib.Core.Path.{◌∙◌}
use Rattle.decimals.proofs.WordLaws.{sign-plus, sign-minus, sign-none, sign-end}
use Rattle.decimals.proofs.number.exponent_sign.Goals as goal

pub returns-then-b-eq43 : goal.returns-then-b-eq43
returns-then-b-eq43 c = c.exponent_digits.ensures ∙ sign-plus _ _ _ _ _ c.if-at-word.true c.if-b-eq43.true

pub returns-then-b-eq45 : goal.returns-then-b-eq45
returns-then-b-eq45 c = c.exponent_digits-then-b-eq45.ensures ∙ sign-minus _ _ _ _ _ c.if-at-word.true c.if-b-eq43.false c.if-b-eq45.true

pub returns-then-at-word : goal.returns-then-at-word
returns-then-at-word c = c.exponent_digits-then-at-word.ensures ∙ sign-none _ _ _ _ _ c.if-at-word.true c.if-b-eq43.false c.if-b-eq45.false

pub returns : goal.returns
returns c = sign-end _ _ _ _ _ c.if-at-word.false
