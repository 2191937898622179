-- `number_text` meets its contract.
use mathlib.Core.Path.{ap, ◌∙◌}
use Rattle.decimals.specs.Text.{bits_text}
use Rattle.decimals.proofs.text.number_text.Goals as goal

pub returns : goal.returns
returns c = c.bits_text.ensures ∙ ap bits_text c.to_bits.ensures
