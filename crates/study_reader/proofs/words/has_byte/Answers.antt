use mathlib.Core.Path.{◌∙◌}
use Rattle.study_reader.proofs.WordLaws.{any-has}
use Rattle.study_reader.proofs.words.has_byte.Goals as goal

pub returns : goal.returns
returns c = c.contains.ensures.value ∙ any-has c.args.bytes.now c.args.b
