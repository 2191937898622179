-- `finite_joint` meets its contract: each test is tried where those before it hold.
use mathlib.Core.Path.{sym, ◌∙◌}
use mathlib.Core.Bool.{false≢true}
use Rattle.spatial_model.proofs.Tried.{joint-tried}
use Rattle.spatial_model.proofs.space.SpaceWork.finite_joint.Goals as goal
use Rattle.spatial_model.proofs.space.SpaceWork.finite_joint.Goals.{then-finite_from, else-finite_from, then-limit_ends, else-limit_ends}

pub returns-then-finite_motors : goal.returns-then-finite_motors
returns-then-finite_motors c = elim c.if-limit_ends.branch [
  | then-limit_ends w2 ↦ elim c.if-finite_from.branch [
    | then-finite_from w1 ↦ rw (joint-tried, sym w1.if-finite_from.ensures, sym w1.limit_ends.ensures ∙ sym w1.value-is ∙ w2.if-limit_ends.true, sym w2.finite_motors.ensures ∙ sym w2.value-is ∙ c.if-finite_motors.true) c.finite_from-then-finite_motors.ensures
    | else-finite_from w1 ↦ absurd (false≢true (sym w1.if-finite_from.false ∙ sym w1.value-is ∙ w2.if-limit_ends.true))
  ]
  | else-limit_ends w2 ↦ absurd (false≢true (sym w2.if-limit_ends.false ∙ sym w2.value-is ∙ c.if-finite_motors.true))
]

pub returns-else-finite_motors : goal.returns-else-finite_motors
returns-else-finite_motors c = elim c.if-limit_ends.branch [
  | then-limit_ends w2 ↦ elim c.if-finite_from.branch [
    | then-finite_from w1 ↦ rw (joint-tried, sym w1.if-finite_from.ensures, sym w1.limit_ends.ensures ∙ sym w1.value-is ∙ w2.if-limit_ends.true, sym w2.finite_motors.ensures ∙ sym w2.value-is ∙ c.if-finite_motors.false) c.if-finite_motors.false
    | else-finite_from w1 ↦ absurd (false≢true (sym w1.if-finite_from.false ∙ sym w1.value-is ∙ w2.if-limit_ends.true))
  ]
  | else-limit_ends w2 ↦ elim c.if-finite_from.branch [
    | then-finite_from w1 ↦ rw (joint-tried, sym w1.if-finite_from.ensures, sym w1.limit_ends.ensures ∙ sym w1.value-is ∙ w2.if-limit_ends.false) c.if-finite_motors.false
    | else-finite_from w1 ↦ rw (joint-tried, sym w1.if-finite_from.ensures) c.if-finite_motors.false
  ]
]
