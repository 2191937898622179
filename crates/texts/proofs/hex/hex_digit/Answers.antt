-- `hex_digit` meets its contract.
use Rattle.texts.proofs.HexLaws.{digit_low, digit-capital, digit-small}
use Rattle.texts.proofs.hex.hex_digit.Goals as goal

pub returns-then-d-lt10 : goal.returns-then-d-lt10
returns-then-d-lt10 c = digit_low _ _ c.if-d-lt10.true

pub returns-then-capitals : goal.returns-then-capitals
returns-then-capitals c = digit-capital _ _ c.if-d-lt10.false c.if-capitals.true

pub returns : goal.returns
returns c = digit-small _ _ c.if-d-lt10.false c.if-capitals.false
