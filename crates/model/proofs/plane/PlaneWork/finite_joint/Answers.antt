-- `finite_joint` meets its contract: each test is tried where those before it hold.
use mathlib.Core.Path.{sym, ◌∙◌}
use mathlib.Core.Bool.{false≢true}
use Rattle.model.proofs.Tried.{joint-tried}
use Rattle.model.proofs.plane.PlaneWork.finite_joint.Goals as goal
use Rattle.model.proofs.plane.PlaneWork.finite_joint.Goals.{then-finite_from, else-finite_from, then-limit_ends, else-limit_ends, then-finite_motors, else-finite_motors}

pub returns-then-finite_from-2 : goal.returns-then-finite_from-2
returns-then-finite_from-2 c = elim c.if-finite_motors.branch [
  | then-finite_motors w3 ↦ elim c.if-limit_ends.branch [
    | then-limit_ends w2 ↦ elim c.if-finite_from.branch [
      | then-finite_from w1 ↦ rw (joint-tried, ← c.center_at.ensures, sym w1.if-finite_from.ensures, sym w1.limit_ends.ensures ∙ sym w1.value-is ∙ w2.if-limit_ends.true, sym w2.finite_motors.ensures ∙ sym w2.value-is ∙ w3.if-finite_motors.true, sym w3.finite_from-then-finite_motors.ensures ∙ sym w3.value-is ∙ c.if-finite_from-2.true) c.finite_center.ensures
      | else-finite_from w1 ↦ absurd (false≢true (sym w1.if-finite_from.false ∙ sym w1.value-is ∙ w2.if-limit_ends.true))
    ]
    | else-limit_ends w2 ↦ absurd (false≢true (sym w2.if-limit_ends.false ∙ sym w2.value-is ∙ w3.if-finite_motors.true))
  ]
  | else-finite_motors w3 ↦ absurd (false≢true (sym w3.if-finite_motors.false ∙ sym w3.value-is ∙ c.if-finite_from-2.true))
]

pub returns-else-finite_from-2 : goal.returns-else-finite_from-2
returns-else-finite_from-2 c = elim c.if-finite_motors.branch [
  | then-finite_motors w3 ↦ elim c.if-limit_ends.branch [
    | then-limit_ends w2 ↦ elim c.if-finite_from.branch [
      | then-finite_from w1 ↦ rw (joint-tried, sym w1.if-finite_from.ensures, sym w1.limit_ends.ensures ∙ sym w1.value-is ∙ w2.if-limit_ends.true, sym w2.finite_motors.ensures ∙ sym w2.value-is ∙ w3.if-finite_motors.true, sym w3.finite_from-then-finite_motors.ensures ∙ sym w3.value-is ∙ c.if-finite_from-2.false) c.if-finite_from-2.false
      | else-finite_from w1 ↦ absurd (false≢true (sym w1.if-finite_from.false ∙ sym w1.value-is ∙ w2.if-limit_ends.true))
    ]
    | else-limit_ends w2 ↦ absurd (false≢true (sym w2.if-limit_ends.false ∙ sym w2.value-is ∙ w3.if-finite_motors.true))
  ]
  | else-finite_motors w3 ↦ elim c.if-limit_ends.branch [
    | then-limit_ends w2 ↦ elim c.if-finite_from.branch [
      | then-finite_from w1 ↦ rw (joint-tried, sym w1.if-finite_from.ensures, sym w1.limit_ends.ensures ∙ sym w1.value-is ∙ w2.if-limit_ends.true, sym w2.finite_motors.ensures ∙ sym w2.value-is ∙ w3.if-finite_motors.false) c.if-finite_from-2.false
      | else-finite_from w1 ↦ absurd (false≢true (sym w1.if-finite_from.false ∙ sym w1.value-is ∙ w2.if-limit_ends.true))
    ]
    | else-limit_ends w2 ↦ elim c.if-finite_from.branch [
      | then-finite_from w1 ↦ rw (joint-tried, sym w1.if-finite_from.ensures, sym w1.limit_ends.ensures ∙ sym w1.value-is ∙ w2.if-limit_ends.false) c.if-finite_from-2.false
      | else-finite_from w1 ↦ rw (joint-tried, sym w1.if-finite_from.ensures) c.if-finite_from-2.false
    ]
  ]
]
