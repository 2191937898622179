use borrow.Author.Tests.{lt-ltb, le-ltb}
use Rattle.study_reader.specs.Study.{second}
use Rattle.study_reader.proofs.changes.put_second.Goals as goal

pub returns-then-many-gt1 : goal.returns-then-many-gt1
unfolding second
returns-then-many-gt1 c =
    let pn = c.before.before.before.before in
    let b1 = pn in
    (rw (lt-ltb _ _ b1.if-many-gt1.true) pn.put_number.ensures.0, rw (lt-ltb _ _ b1.if-many-gt1.true) pn.put_number.ensures.1)

pub returns-else-many-gt1 : goal.returns-else-many-gt1
unfolding second
returns-else-many-gt1 c = (rw (le-ltb _ _ c.if-many-gt1.false), rw (le-ltb _ _ c.if-many-gt1.false))
