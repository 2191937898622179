-- `limit_ends` meets its contract: each test is tried where those before it hold.
use mathlib.Core.Path.{sym, ◌∙◌}
use mathlib.Core.Bool.{false≢true}
use Rattle.model.proofs.Tried.{ends-tried}
use Rattle.model.proofs.refusals.limit_ends.Goals as goal
use Rattle.model.proofs.refusals.limit_ends.Goals.{then-no_nan_from, else-no_nan_from}

pub returns-then-no_nan_from-2 : goal.returns-then-no_nan_from-2
returns-then-no_nan_from-2 c = elim c.if-no_nan_from.branch [
  | then-no_nan_from w1 ↦ rw (ends-tried, sym w1.if-no_nan_from.ensures, sym w1.no_nan_from-then-no_nan_from.ensures ∙ sym w1.value-is ∙ c.if-no_nan_from-2.true) c.no_nan_from-then-no_nan_from-2.ensures
  | else-no_nan_from w1 ↦ absurd (false≢true (sym w1.if-no_nan_from.false ∙ sym w1.value-is ∙ c.if-no_nan_from-2.true))
]

pub returns-else-no_nan_from-2 : goal.returns-else-no_nan_from-2
returns-else-no_nan_from-2 c = elim c.if-no_nan_from.branch [
  | then-no_nan_from w1 ↦ rw (ends-tried, sym w1.if-no_nan_from.ensures, sym w1.no_nan_from-then-no_nan_from.ensures ∙ sym w1.value-is ∙ c.if-no_nan_from-2.false) c.if-no_nan_from-2.false
  | else-no_nan_from w1 ↦ rw (ends-tried, sym w1.if-no_nan_from.ensures) c.if-no_nan_from-2.false
]
