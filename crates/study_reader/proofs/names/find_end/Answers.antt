-- `find_end` meets its contract.
use mathlib.Core.Path.{sym, ◌∙◌}
use Rattle.study_reader.specs.Names.{find_end}
use Rattle.study_reader.proofs.names.find_end.Goals as goal

pub returns-then-is : goal.returns-then-is
unfolding find_end
returns-then-is c = simp (sym c.is.ensures ∙ c.if-is.true)

pub returns : goal.returns
unfolding find_end
returns c = simp (sym c.is.ensures ∙ c.if-is.false) c.find_body.ensures
