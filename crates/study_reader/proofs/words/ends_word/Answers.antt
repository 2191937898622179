-- `ends_word` meets its contract.
use mathlib.Core.Path.{sym, ◌∙◌}
use Rattle.study_reader.specs.Words.{ends_word}
use Rattle.study_reader.proofs.WordLaws.{or_left, or_right}
use Rattle.study_reader.proofs.words.ends_word.Goals as goal

pub returns-then-is_blank : goal.returns-then-is_blank
unfolding ends_word
returns-then-is_blank c = c.if-is_blank.true ∙ or_left _ _ (sym c.is_blank.ensures ∙ c.if-is_blank.true)

pub returns-else-is_blank : goal.returns-else-is_blank
unfolding ends_word
returns-else-is_blank c = c.has_byte.ensures ∙ or_right _ _ (sym c.is_blank.ensures ∙ c.if-is_blank.false)
