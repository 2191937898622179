-- `hex_word` meets its contract, digit by digit.
use Rattle.texts.specs.Hex.{hex_word}
use Rattle.texts.proofs.hex.hex_word.Goals as goal

pub returns : goal.returns
unfolding hex_word
returns c = simp (c.hex_digit-a7.ensures, c.hex_digit-a6.ensures, c.hex_digit-a5.ensures, c.hex_digit-a4.ensures, c.hex_digit-a3.ensures, c.hex_digit-a2.ensures, c.hex_digit-a1.ensures, c.hex_digit-a0.ensures)
