-- `motor_model_of` meets its contract: each answer is the case that the test left.
use borrow.Author.Tests.{ne_eqb, eq-eqb}
use Rattle.comparison.proofs.joint.motor_model_of.Goals as goal

pub returns-then-m-eq0 : goal.returns-then-m-eq0
returns-then-m-eq0 c = simp (eq-eqb _ _ c.if-m-eq0.true)

pub returns : goal.returns
returns c = simp (ne_eqb _ _ c.if-m-eq0.false)
