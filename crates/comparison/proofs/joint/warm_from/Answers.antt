-- `warm_from` meets its contract: the test decides the specification's.
use borrow.Author.Tests.{eq-eqb, ne_eqb}
use Rattle.comparison.specs.JointExports.{warm_from}
use Rattle.comparison.proofs.joint.warm_from.Goals as goal

pub returns-then-words-eq0 : goal.returns-then-words-eq0
unfolding warm_from
returns-then-words-eq0 c = simp (eq-eqb _ _ c.if-words-eq0.true)

pub returns : goal.returns
unfolding warm_from
returns c = simp (ne_eqb _ _ c.if-words-eq0.false)
