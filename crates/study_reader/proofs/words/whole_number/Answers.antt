-- `whole_number` meets its contract.
use mathlib.Core.Path.{ap, ◌∙◌}
use Rattle.study_reader.specs.Words.{whole_number}
use Rattle.study_reader.proofs.words.whole_number.Goals as goal

pub returns : goal.returns
returns c = c.whole_in.ensures ∙ ap whole_number c.bytes_of.ensures
