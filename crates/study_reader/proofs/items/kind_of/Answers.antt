use borrow.Author.Tests.{le-leb, lt-leb}
use Rattle.study_reader.proofs.items.kind_of.Goals as goal

pub returns-then-keyword-le-ANGLE : goal.returns-then-keyword-le-ANGLE
returns-then-keyword-le-ANGLE c = rw (le-leb _ _ c.if-keyword-le-ANGLE.true)

pub returns : goal.returns
returns c = rw (lt-leb _ _ c.if-keyword-le-ANGLE.false)
