-- `id_of` meets its contract: each answer is the case that the tests left.
use borrow.Author.Tests.{le-ltb, lt-ltb}
use Rattle.comparison.proofs.joint.id_of.Goals as goal

pub returns-then-id-lt4 : goal.returns-then-id-lt4
returns-then-id-lt4 c = simp (lt-ltb _ _ c.if-id-lt4.true)

pub returns-then-id-lt8 : goal.returns-then-id-lt8
returns-then-id-lt8 c = simp (le-ltb _ _ c.if-id-lt4.false, lt-ltb _ _ c.if-id-lt8.true)

pub returns-then-id-lt12 : goal.returns-then-id-lt12
returns-then-id-lt12 c = simp (le-ltb _ _ c.if-id-lt4.false, le-ltb _ _ c.if-id-lt8.false, lt-ltb _ _ c.if-id-lt12.true)

pub returns : goal.returns
returns c = simp (le-ltb _ _ c.if-id-lt4.false, le-ltb _ _ c.if-id-lt8.false, le-ltb _ _ c.if-id-lt12.false)
