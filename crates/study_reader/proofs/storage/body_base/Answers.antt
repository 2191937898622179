-- `body_base` meets its contract.
use borrow.Author.Tests.{lt-ltb, le-ltb}
use Rattle.study_reader.specs.Storage.{body_base}
use Rattle.study_reader.proofs.storage.body_base.Goals as goal

pub returns-then-i-lt-MOST : goal.returns-then-i-lt-MOST
unfolding body_base
returns-then-i-lt-MOST c = simp (lt-ltb _ _ c.if-i-lt-MOST.true)

pub returns : goal.returns
unfolding body_base
returns c = simp (le-ltb _ _ c.if-i-lt-MOST.false)
