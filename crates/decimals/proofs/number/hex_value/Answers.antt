-- `hex_value` meets its contract, test by test.
use Rattle.decimals.proofs.WordLaws.{hex-low, hex-decimal, hex-between, hex-upper, hex-between-cases, hex-lower, hex-high}
use Rattle.decimals.proofs.number.hex_value.Goals as goal

pub returns-then-b-lt48 : goal.returns-then-b-lt48
returns-then-b-lt48 c = hex-low _ c.if-b-lt48.true

pub returns-then-b-le57 : goal.returns-then-b-le57
returns-then-b-le57 c = hex-decimal _ c.if-b-lt48.false c.if-b-le57.true

pub returns-then-b-lt65 : goal.returns-then-b-lt65
returns-then-b-lt65 c = hex-between _ c.if-b-le57.false c.if-b-lt65.true

pub returns-then-b-le70 : goal.returns-then-b-le70
returns-then-b-le70 c = hex-upper _ c.if-b-lt65.false c.if-b-le70.true

pub returns-then-b-lt97 : goal.returns-then-b-lt97
returns-then-b-lt97 c = hex-between-cases _ c.if-b-le70.false c.if-b-lt97.true

pub returns-then-b-le102 : goal.returns-then-b-le102
returns-then-b-le102 c = hex-lower _ c.if-b-lt97.false c.if-b-le102.true

pub returns : goal.returns
returns c = hex-high _ c.if-b-le102.false
