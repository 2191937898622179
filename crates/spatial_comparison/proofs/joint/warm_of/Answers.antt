-- `warm_of` meets its contract: the test decides the definition's.
use borrow.Author.Tests.{eq-eqb, ne_eqb}
use Rattle.spatial_comparison.proofs.joint.warm_of.Goals as goal

pub returns-then-warm-eq0 : goal.returns-then-warm-eq0
returns-then-warm-eq0 c = simp (eq-eqb _ _ c.if-warm-eq0.true)

pub returns : goal.returns
returns c = simp (ne_eqb _ _ c.if-warm-eq0.false)
