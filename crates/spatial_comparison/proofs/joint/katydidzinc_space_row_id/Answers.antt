-- `katydidzinc_space_row_id` meets its contract: the test decides the definition's.
use borrow.Author.Tests.{lt-ltb, le-ltb}
use Rattle.spatial_comparison.specs.RowExports.{id_at}
use Rattle.spatial_comparison.proofs.joint.katydidzinc_space_row_id.Goals as goal

pub returns-then-k-lt9 : goal.returns-then-k-lt9
unfolding id_at
returns-then-k-lt9 c = simp (lt-ltb _ _ c.if-k-lt9.true) (cc)

pub returns : goal.returns
unfolding id_at
returns c = simp (le-ltb _ _ c.if-k-lt9.false)
