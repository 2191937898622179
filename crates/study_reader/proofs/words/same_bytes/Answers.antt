use mathlib.Core.Path.{◌∙◌}
use Rattle.study_reader.proofs.WordLaws.{same_pointwise}
use Rattle.study_reader.proofs.words.same_bytes.Goals as goal

pub returns : goal.returns
returns c = c.eq.ensures ∙ same_pointwise c.args.a.now c.args.b.now
