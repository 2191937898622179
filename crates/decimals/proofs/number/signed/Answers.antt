-- `signed` meets its contract.
use Rattle.decimals.proofs.number.signed.Goals as goal

pub returns-then-negative : goal.returns-then-negative
returns-then-negative c = simp c.if-negative.true

pub returns-else-negative : goal.returns-else-negative
returns-else-negative c = simp c.if-negative.false
