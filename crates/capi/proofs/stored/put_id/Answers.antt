-- `put_id` meets its contract: the test decides the specification's.
use borrow.Author.Tests.{le-ltb, lt-ltb}
use Rattle.capi.specs.Stored.{put_id}
use Rattle.capi.proofs.stored.put_id.Goals as goal

pub returns-then-k-n : goal.returns-then-k-n
unfolding put_id
returns-then-k-n c = simp (lt-ltb _ _ c.if-k-n.true) (cc)

pub returns-else-k-n : goal.returns-else-k-n
unfolding put_id
returns-else-k-n c = simp (le-ltb _ _ c.if-k-n.false)
