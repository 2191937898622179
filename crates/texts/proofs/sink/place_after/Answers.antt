-- `place_after` meets its contract.
use borrow.Author.Tests.{lt-ltb, le-ltb}
use Rattle.texts.specs.Sink.{place_after}
use Rattle.texts.proofs.sink.place_after.Goals as goal

pub returns-then-at-lt18446744073709551615 : goal.returns-then-at-lt18446744073709551615
unfolding place_after
returns-then-at-lt18446744073709551615 c = simp (lt-ltb _ _ c.if-at-lt18446744073709551615.true)

pub returns : goal.returns
unfolding place_after
returns c = simp (le-ltb _ _ c.if-at-lt18446744073709551615.false)
