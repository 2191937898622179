-- `read_body1` meets its contract, by that of `body1_at`.
use mathlib.Core.Path.{sym, ◌∙◌}
use Rattle.model.proofs.ReactionsLaws.{body1-there, body1-absent}
use Rattle.model.proofs.reactions.read_body1.Goals as goal

pub returns-then-j-words : goal.returns-then-j-words
returns-then-j-words c = c.body1_at.ensures ∙ sym (body1-there _ _ c.if-j-words.true)

pub returns : goal.returns
returns c = sym (body1-absent _ _ c.if-j-words.false)
