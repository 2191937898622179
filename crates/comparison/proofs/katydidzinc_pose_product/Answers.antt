-- `katydidzinc_pose_product` meets its contract. Each of the two tests decides one of the specification's; past them, what is written follows from what the callees ensure. Assumes nothing.
use borrow.Author.Tests.{le-leb, lt-leb}
use Rattle.comparison.specs.Exports.{pose_product}
use Rattle.comparison.proofs.katydidzinc_pose_product.Goals as goal

pub returns-then-x-lt13 : goal.returns-then-x-lt13
unfolding pose_product
returns-then-x-lt13 c = simp (lt-leb _ _ c.if-x-lt13.true)

pub returns-then-out-lt4 : goal.returns-then-out-lt4
unfolding pose_product
returns-then-out-lt4 c = simp (le-leb _ _ c.if-x-lt13.false, lt-leb _ _ c.if-out-lt4.true)

pub returns : goal.returns
unfolding pose_product
returns c =
    simp (le-leb _ _ c.if-x-lt13.false, le-leb _ _ c.if-out-lt4.false) (cc)
