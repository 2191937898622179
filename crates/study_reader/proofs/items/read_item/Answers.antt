use borrow.Author.Tests.{eq-eqb, ne_eqb, le-leb, lt-leb}
use Rattle.study_reader.specs.Items.{item_line, or_fault}
use Rattle.study_reader.proofs.items.read_item.Goals as goal

pub returns-then-keyword-eq0 : goal.returns-then-keyword-eq0
unfolding item_line or_fault
returns-then-keyword-eq0 c =
    let b1 = c.before in
    let ik = b1 in
    rw (c.read_field_line.ensures, ← ik.item_keyword-keyword.ensures, eq-eqb _ _ b1.if-keyword-eq0.true)

pub returns-then-keyword-ge-SETTINGS : goal.returns-then-keyword-ge-SETTINGS
unfolding item_line or_fault
returns-then-keyword-ge-SETTINGS c =
    let b2 = c.before in
    let b1 = b2.before in
    let ik = b1 in
    rw (c.read_open.ensures, ← ik.item_keyword-keyword.ensures, ne_eqb _ _ b1.if-keyword-eq0.false, le-leb _ _ b2.if-keyword-ge-SETTINGS.true)

pub returns-in-Some : goal.returns-in-Some
unfolding item_line or_fault
returns-in-Some c =
    rw (← c.item_keyword-keyword.ensures, ne_eqb _ _ c.if-keyword-eq0.false, lt-leb _ _ c.if-keyword-ge-SETTINGS.false, ← c.kind_of.ensures, ← c.kind_fault.ensures, c.in-Some.is)

pub returns : goal.returns
unfolding item_line or_fault
returns c =
    rw (c.read_word.ensures, ← c.item_keyword-keyword.ensures, ne_eqb _ _ c.if-keyword-eq0.false, lt-leb _ _ c.if-keyword-ge-SETTINGS.false, ← c.kind_of.ensures, ← c.kind_fault.ensures, c.in_default.is)
