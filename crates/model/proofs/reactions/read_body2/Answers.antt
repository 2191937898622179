-- `read_body2` meets its contract, by that of `body2_at`.
use mathlib.Core.Path.{sym, ◌∙◌}
use Rattle.model.proofs.ReactionsLaws.{body2-there, body2-absent}
use Rattle.model.proofs.reactions.read_body2.Goals as goal

pub returns-then-j-words : goal.returns-then-j-words
returns-then-j-words c = c.body2_at.ensures ∙ sym (body2-there _ _ c.if-j-words.true)

pub returns : goal.returns
returns c = sym (body2-absent _ _ c.if-j-words.false)
