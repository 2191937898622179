-- `signed` meets its contract: the case that the test left.
use Rattle.floats.proofs.angle.signed.Goals as goal

pub returns-then-negative : goal.returns-then-negative
returns-then-negative c = simp c.if-negative.true
