use borrow.Author.Tests.{lt-ltb, le-ltb}
use Rattle.std.proofs.lemmas.Bool.{leb-false}
use native.Mathlib.Omega.{arith}
use mathlib.Core.Path.{sym, ◌∙◌}
use Rattle.study_reader.specs.Words.{is_empty}
use Rattle.study_reader.specs.Items.{name_fault}
use Rattle.study_reader.proofs.items.name_fault.Goals as goal

pub returns-then-is_empty : goal.returns-then-is_empty
unfolding name_fault
returns-then-is_empty c = rw (← c.is_empty.ensures, c.if-is_empty.true)

pub returns-then-is : goal.returns-then-is
unfolding name_fault
returns-then-is c = rw (← c.is_empty.ensures, c.if-is_empty.false, ← c.is.ensures, c.if-is.true)

pub overflow_sub-w : goal.overflow_sub-w
unfolding is_empty
overflow_sub-w c = omega (arith, leb-false _ _ (sym c.is_empty.ensures ∙ c.if-is_empty.false))

pub returns-then-w-gt64 : goal.returns-then-w-gt64
unfolding name_fault
returns-then-w-gt64 c = rw (← c.is_empty.ensures, c.if-is_empty.false, ← c.is.ensures, c.if-is.false, lt-ltb _ _ c.if-w-gt64.true)

pub returns-then-holds : goal.returns-then-holds
unfolding name_fault
returns-then-holds c = rw (← c.is_empty.ensures, c.if-is_empty.false, ← c.is.ensures, c.if-is.false, le-ltb _ _ c.if-w-gt64.false, ← c.holds.ensures, c.if-holds.true)

pub returns-then-holds-2 : goal.returns-then-holds-2
unfolding name_fault
returns-then-holds-2 c = rw (← c.is_empty.ensures, c.if-is_empty.false, ← c.is.ensures, c.if-is.false, le-ltb _ _ c.if-w-gt64.false, ← c.holds.ensures, c.if-holds.false, ← c.holds-2.ensures, c.if-holds-2.true)

pub returns-then-is_some : goal.returns-then-is_some
unfolding name_fault
returns-then-is_some c = rw (← c.is_empty.ensures, c.if-is_empty.false, ← c.is.ensures, c.if-is.false, le-ltb _ _ c.if-w-gt64.false, ← c.holds.ensures, c.if-holds.false, ← c.holds-2.ensures, c.if-holds-2.false, ← c.find_body.ensures, ← c.is_some.ensures, c.if-is_some.true)

pub returns-then-is_some-2 : goal.returns-then-is_some-2
unfolding name_fault
returns-then-is_some-2 c = rw (← c.is_empty.ensures, c.if-is_empty.false, ← c.is.ensures, c.if-is.false, le-ltb _ _ c.if-w-gt64.false, ← c.holds.ensures, c.if-holds.false, ← c.holds-2.ensures, c.if-holds-2.false, ← c.find_body.ensures, ← c.is_some.ensures, c.if-is_some.false, ← c.find_joint.ensures, ← c.is_some-2.ensures, c.if-is_some-2.true)

pub returns : goal.returns
unfolding name_fault
returns c = rw (← c.is_empty.ensures, c.if-is_empty.false, ← c.is.ensures, c.if-is.false, le-ltb _ _ c.if-w-gt64.false, ← c.holds.ensures, c.if-holds.false, ← c.holds-2.ensures, c.if-holds-2.false, ← c.find_body.ensures, ← c.is_some.ensures, c.if-is_some.false, ← c.find_joint.ensures, ← c.is_some-2.ensures, c.if-is_some-2.false)
