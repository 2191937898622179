use borrow.Author.Tests.{eq-eqb, ne_eqb}
use Rattle.study_reader.specs.Items.{field_line, or_fault}
use Rattle.study_reader.proofs.items.read_field_line.Goals as goal

pub returns-then-f-eq-NO_ITEM : goal.returns-then-f-eq-NO_ITEM
unfolding field_line or_fault
returns-then-f-eq-NO_ITEM c = rw (← c.field_of-f.ensures, eq-eqb _ _ c.if-f-eq-NO_ITEM.true)

pub returns-in-Some : goal.returns-in-Some
unfolding field_line or_fault
returns-in-Some c = rw (← c.field_of-f.ensures, ne_eqb _ _ c.if-f-eq-NO_ITEM.false, ← c.kind_fault.ensures, c.in-Some.is)

pub returns : goal.returns
unfolding field_line or_fault
returns c = rw (c.read_field.ensures, ← c.field_of-f.ensures, ne_eqb _ _ c.if-f-eq-NO_ITEM.false, ← c.kind_fault.ensures, c.in_default.is)
