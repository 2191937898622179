-- `number_in` meets its contract.
use mathlib.Core.Path.{ap, ◌∙◌}
use Rattle.decimals.specs.Words.{reading_of}
use Rattle.study_reader.specs.Numbers.{number_in}
use Rattle.study_reader.proofs.number.number_in.Goals as goal

pub returns : goal.returns
unfolding number_in
returns c = c.read_number.ensures ∙ ap reading_of c.bytes_of.ensures
