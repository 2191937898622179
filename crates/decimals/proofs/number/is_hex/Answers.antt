-- `is_hex` meets its contract, test by test.
use Rattle.decimals.proofs.WordLaws.{hex-short, hex-no-zero, hex-zero}
use Rattle.decimals.proofs.number.is_hex.Goals as goal

pub returns-then-word-lt2 : goal.returns-then-word-lt2
returns-then-word-lt2 c = hex-short _ c.if-word-lt2.true

pub returns-then-word-ne48 : goal.returns-then-word-ne48
returns-then-word-ne48 c = hex-no-zero _ c.if-word-lt2.false c.if-word-ne48.true

pub returns : goal.returns
returns c = hex-zero _ c.if-word-lt2.false c.if-word-ne48.false
