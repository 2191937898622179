-- `is_quote` meets its contract: past the end of the text no quote stands.
use mathlib.Core.Path.{◌∙◌}
use borrow.Author.Tests.{le-ltb}
use borrow.Author.Rules.{rules}
use Rattle.study_reader.specs.Words.{is_quote}
use Rattle.study_reader.proofs.Places.{no-quote}
use Rattle.study_reader.proofs.words.is_quote.Goals as goal

pub returns-then-at-text : goal.returns-then-at-text
unfolding is_quote
returns-then-at-text c = search rules

pub returns-else-at-text : goal.returns-else-at-text
returns-else-at-text c = le-ltb _ _ c.if-at-text.false ∙ no-quote _ _ c.if-at-text.false
