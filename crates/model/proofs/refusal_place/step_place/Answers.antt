-- `step_place` meets its contract: dt is below zero, or it is not.
use Rattle.model.specs.RefusalPlace.{broken}
use Rattle.model.proofs.refusal_place.step_place.Goals as goal

pub returns-then-p : goal.returns-then-p
unfolding broken
returns-then-p c = rw c.if-p.true

pub returns : goal.returns
unfolding broken
returns c = rw c.if-p.false
