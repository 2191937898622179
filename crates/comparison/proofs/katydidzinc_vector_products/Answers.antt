-- `katydidzinc_vector_products` meets its contract. Each of the two tests decides one of the specification's; past them, what is written follows from what the callees ensure. Assumes nothing.
use borrow.Author.Tests.{le-leb, lt-leb}
use Rattle.comparison.specs.Exports.{vector_products}
use Rattle.comparison.proofs.katydidzinc_vector_products.Goals as goal

pub returns-then-x-lt13 : goal.returns-then-x-lt13
unfolding vector_products
returns-then-x-lt13 c = simp (lt-leb _ _ c.if-x-lt13.true)

pub returns-then-out-lt6 : goal.returns-then-out-lt6
unfolding vector_products
returns-then-out-lt6 c = simp (le-leb _ _ c.if-x-lt13.false, lt-leb _ _ c.if-out-lt6.true)

pub returns : goal.returns
unfolding vector_products
returns c =
    simp (le-leb _ _ c.if-x-lt13.false, le-leb _ _ c.if-out-lt6.false) (cc)
