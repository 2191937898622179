-- `kept` meets its contract.
use borrow.Author.Tests.{lt-ltb, le-ltb}
use Rattle.study_reader.specs.Storage.{kept}
use Rattle.study_reader.proofs.storage.kept.Goals as goal

pub returns-then-at-lt4294967295 : goal.returns-then-at-lt4294967295
unfolding kept
returns-then-at-lt4294967295 c = simp (lt-ltb _ _ c.if-at-lt4294967295.true)

pub returns : goal.returns
unfolding kept
returns c = simp (le-ltb _ _ c.if-at-lt4294967295.false)
