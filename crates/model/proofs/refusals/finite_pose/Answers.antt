-- `finite_pose` meets its contract: each test is tried where those before it hold.
use mathlib.Core.Path.{sym, ◌∙◌}
use mathlib.Core.Bool.{false≢true}
use Rattle.model.specs.Refusals.{finite_pose}
use Rattle.model.proofs.refusals.finite_pose.Goals as goal
use Rattle.model.proofs.refusals.finite_pose.Goals.{then-is_finite, else-is_finite, then-is_finite-2, else-is_finite-2}

pub returns-then-is_finite-3 : goal.returns-then-is_finite-3
unfolding finite_pose
returns-then-is_finite-3 c = elim c.if-is_finite-2.branch [
  | then-is_finite-2 w2 ↦ elim c.if-is_finite.branch [
    | then-is_finite w1 ↦ rw (sym w1.if-is_finite.ensures, sym w1.is_finite-then-is_finite.ensures ∙ sym w1.value-is ∙ w2.if-is_finite-2.true, sym w2.is_finite-then-is_finite-2.ensures ∙ sym w2.value-is ∙ c.if-is_finite-3.true) c.is_finite-then-is_finite-3.ensures
    | else-is_finite w1 ↦ absurd (false≢true (sym w1.if-is_finite.false ∙ sym w1.value-is ∙ w2.if-is_finite-2.true))
  ]
  | else-is_finite-2 w2 ↦ absurd (false≢true (sym w2.if-is_finite-2.false ∙ sym w2.value-is ∙ c.if-is_finite-3.true))
]

pub returns-else-is_finite-3 : goal.returns-else-is_finite-3
unfolding finite_pose
returns-else-is_finite-3 c = elim c.if-is_finite-2.branch [
  | then-is_finite-2 w2 ↦ elim c.if-is_finite.branch [
    | then-is_finite w1 ↦ rw (sym w1.if-is_finite.ensures, sym w1.is_finite-then-is_finite.ensures ∙ sym w1.value-is ∙ w2.if-is_finite-2.true, sym w2.is_finite-then-is_finite-2.ensures ∙ sym w2.value-is ∙ c.if-is_finite-3.false) c.if-is_finite-3.false
    | else-is_finite w1 ↦ absurd (false≢true (sym w1.if-is_finite.false ∙ sym w1.value-is ∙ w2.if-is_finite-2.true))
  ]
  | else-is_finite-2 w2 ↦ elim c.if-is_finite.branch [
    | then-is_finite w1 ↦ rw (sym w1.if-is_finite.ensures, sym w1.is_finite-then-is_finite.ensures ∙ sym w1.value-is ∙ w2.if-is_finite-2.false) c.if-is_finite-3.false
    | else-is_finite w1 ↦ rw (sym w1.if-is_finite.ensures) c.if-is_finite-3.false
  ]
]
