-- `column_of` meets its contract.
use mathlib.Core.Path.{ap, ◌∙◌}
use Rattle.study_reader.specs.Words.{column_after, column_of}
use Rattle.study_reader.proofs.WordLaws.{front}
use Rattle.study_reader.proofs.words.column_of.Goals as goal

pub returns : goal.returns
unfolding column_of
returns c = c.column_after.ensures ∙ ap (column_after 1) (c.bytes_of.ensures ∙ front c.args.text.now c.args.at)
