-- `joint_base` meets its contract.
use borrow.Author.Tests.{lt-ltb, le-ltb}
use Rattle.study_reader.specs.Storage.{joint_base}
use Rattle.study_reader.proofs.storage.joint_base.Goals as goal

pub returns-then-j-lt-MOST : goal.returns-then-j-lt-MOST
unfolding joint_base
returns-then-j-lt-MOST c = simp (lt-ltb _ _ c.if-j-lt-MOST.true)

pub returns : goal.returns
unfolding joint_base
returns c = simp (le-ltb _ _ c.if-j-lt-MOST.false)
