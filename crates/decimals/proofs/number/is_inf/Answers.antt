-- `is_inf` meets its contract, byte by byte.
use Rattle.decimals.proofs.WordLaws.{inf-length, inf-first, inf-second, inf-third}
use Rattle.decimals.proofs.number.is_inf.Goals as goal

pub returns-then-word-at-ne3 : goal.returns-then-word-at-ne3
returns-then-word-at-ne3 c = inf-length c.args.word.now c.args.at c.if-word-at-ne3.true

pub returns-then-word-at-ne105 : goal.returns-then-word-at-ne105
returns-then-word-at-ne105 c = inf-first c.args.word.now c.args.at c.if-word-at-ne3.false c.if-word-at-ne105.true

pub returns-then-word-at-ne110 : goal.returns-then-word-at-ne110
returns-then-word-at-ne110 c = inf-second c.args.word.now c.args.at c.if-word-at-ne3.false c.if-word-at-ne105.false c.if-word-at-ne110.true

pub returns : goal.returns
returns c = inf-third c.args.word.now c.args.at c.if-word-at-ne3.false c.if-word-at-ne105.false c.if-word-at-ne110.false
