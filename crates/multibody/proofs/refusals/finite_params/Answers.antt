-- `finite_params` meets its contract: each test is tried where those before it hold.
use mathlib.Core.Path.{sym, ◌∙◌}
use mathlib.Core.Bool.{false≢true}
use Rattle.multibody.specs.Refusals.{finite_params}
use Rattle.multibody.proofs.refusals.finite_params.Goals as goal
use Rattle.multibody.proofs.refusals.finite_params.Goals.{then-is_finite, else-is_finite}

pub returns-then-is_finite-2 : goal.returns-then-is_finite-2
unfolding finite_params
returns-then-is_finite-2 c = elim c.if-is_finite.branch [
  | then-is_finite w ↦ rw (sym w.if-is_finite.ensures, sym w.is_finite-then-is_finite.ensures ∙ sym w.value-is ∙ c.if-is_finite-2.true) c.is_finite-then-is_finite-2.ensures
  | else-is_finite w ↦ absurd (false≢true (sym w.if-is_finite.false ∙ sym w.value-is ∙ c.if-is_finite-2.true))
]

pub returns-else-is_finite-2 : goal.returns-else-is_finite-2
unfolding finite_params
returns-else-is_finite-2 c = elim c.if-is_finite.branch [
  | then-is_finite w ↦ rw (sym w.if-is_finite.ensures, sym w.is_finite-then-is_finite.ensures ∙ sym w.value-is ∙ c.if-is_finite-2.false) c.if-is_finite-2.false
  | else-is_finite w ↦ rw (sym w.if-is_finite.ensures) c.if-is_finite-2.false
]
