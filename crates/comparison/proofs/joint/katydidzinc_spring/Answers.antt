-- `katydidzinc_spring` meets its contract. The test decides the specification's; past it, what is written follows from what the callees ensure.
use borrow.Author.Tests.{le-leb, lt-leb}
use Rattle.comparison.specs.JointExports.{spring}
use Rattle.comparison.proofs.joint.katydidzinc_spring.Goals as goal

pub returns-then-out-lt2 : goal.returns-then-out-lt2
unfolding spring
returns-then-out-lt2 c = simp (lt-leb _ _ c.if-out-lt2.true)

pub returns : goal.returns
unfolding spring
returns c = simp (le-leb _ _ c.if-out-lt2.false) (cc)
