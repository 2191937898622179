-- `finite_vector` meets its contract: each test is tried where those before it hold.
use mathlib.Core.Path.{sym, ◌∙◌}
use mathlib.Core.Bool.{false≢true}
use Rattle.spatial_model.specs.Refusals.{finite_vector}
use Rattle.spatial_model.proofs.refusals.finite_vector.Goals as goal
use Rattle.spatial_model.proofs.refusals.finite_vector.Goals.{then-is_finite, else-is_finite}

pub returns-then-is_finite-2 : goal.returns-then-is_finite-2
unfolding finite_vector
returns-then-is_finite-2 c = elim c.if-is_finite.branch [
  | then-is_finite w1 ↦ rw (sym w1.if-is_finite.ensures, sym w1.is_finite-then-is_finite.ensures ∙ sym w1.value-is ∙ c.if-is_finite-2.true) c.is_finite-then-is_finite-2.ensures
  | else-is_finite w1 ↦ absurd (false≢true (sym w1.if-is_finite.false ∙ sym w1.value-is ∙ c.if-is_finite-2.true))
]

pub returns-else-is_finite-2 : goal.returns-else-is_finite-2
unfolding finite_vector
returns-else-is_finite-2 c = elim c.if-is_finite.branch [
  | then-is_finite w1 ↦ rw (sym w1.if-is_finite.ensures, sym w1.is_finite-then-is_finite.ensures ∙ sym w1.value-is ∙ c.if-is_finite-2.false) c.if-is_finite-2.false
  | else-is_finite w1 ↦ rw (sym w1.if-is_finite.ensures) c.if-is_finite-2.false
]
