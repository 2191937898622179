-- `warm_of` meets its contract: the flag decides the specification's.
use mathlib.Core.Path.{sym, ◌∙◌}
use Rattle.capi.proofs.calls.warm_of.Goals as goal

pub returns-then-flag_of : goal.returns-then-flag_of
returns-then-flag_of c = simp (sym c.flag_of.ensures ∙ c.if-flag_of.true)

pub returns : goal.returns
returns c = simp (sym c.flag_of.ensures ∙ c.if-flag_of.false)
