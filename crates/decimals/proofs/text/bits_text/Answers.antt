-- `bits_text` meets its contract.
use Rattle.decimals.specs.Text.{bits_text}
use Rattle.decimals.proofs.text.bits_text.Goals as goal

pub returns : goal.returns
unfolding bits_text
returns c = c.hex_word.ensures
