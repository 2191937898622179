-- `katydidzinc_combine_coefficients` meets its contract. The test decides the specification's; past it, what is written follows from what the callees ensure.
use borrow.Author.Tests.{le-leb, lt-leb}
use Rattle.comparison.specs.JointExports.{combine_coefficients}
use Rattle.comparison.proofs.joint.katydidzinc_combine_coefficients.Goals as goal

pub returns-then-out-lt3 : goal.returns-then-out-lt3
unfolding combine_coefficients
returns-then-out-lt3 c = simp (lt-leb _ _ c.if-out-lt3.true)

pub returns : goal.returns
unfolding combine_coefficients
returns c = simp (le-leb _ _ c.if-out-lt3.false) (cc)
