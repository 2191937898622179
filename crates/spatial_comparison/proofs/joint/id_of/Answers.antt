-- `id_of` meets its contract: each answer is the case that the tests left.
use borrow.Author.Tests.{le-ltb, lt-ltb}
use Rattle.spatial_comparison.specs.RowExports.{id_of}
use Rattle.spatial_comparison.proofs.joint.id_of.Goals as goal

pub returns-then-id-lt8 : goal.returns-then-id-lt8
unfolding id_of
returns-then-id-lt8 c = simp (lt-ltb _ _ c.if-id-lt8.true)

pub returns-then-id-lt16 : goal.returns-then-id-lt16
unfolding id_of
returns-then-id-lt16 c = simp (le-ltb _ _ c.if-id-lt8.false, lt-ltb _ _ c.if-id-lt16.true)

pub returns-then-id-lt24 : goal.returns-then-id-lt24
unfolding id_of
returns-then-id-lt24 c = simp (le-ltb _ _ c.if-id-lt8.false, le-ltb _ _ c.if-id-lt16.false, lt-ltb _ _ c.if-id-lt24.true)

pub returns : goal.returns
unfolding id_of
returns c = simp (le-ltb _ _ c.if-id-lt8.false, le-ltb _ _ c.if-id-lt16.false, le-ltb _ _ c.if-id-lt24.false)
