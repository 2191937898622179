-- `length_to` meets its contract.
use borrow.Author.Tests.{lt-ltb, le-ltb}
use Rattle.texts.proofs.sink.length_to.Goals as goal

pub returns-then-end-lt18446744073709551615 : goal.returns-then-end-lt18446744073709551615
returns-then-end-lt18446744073709551615 c = simp (lt-ltb _ _ c.if-end-lt18446744073709551615.true)

pub returns-else-end-lt18446744073709551615 : goal.returns-else-end-lt18446744073709551615
returns-else-end-lt18446744073709551615 c = simp (le-ltb _ _ c.if-end-lt18446744073709551615.false)
