use borrow.Author.Tests.{eq-eqb, ne_eqb}
use Rattle.study_reader.specs.Items.{line_of}
use Rattle.study_reader.proofs.items.read_line.Goals as goal

pub returns-then-is_empty : goal.returns-then-is_empty
unfolding line_of
returns-then-is_empty c = rw (← c.next_word-w.ensures, ← c.is_empty.ensures, c.if-is_empty.true)

pub returns-then-call_keyword-eq0 : goal.returns-then-call_keyword-eq0
unfolding line_of
returns-then-call_keyword-eq0 c =
    let b2 = c.before in
    let ck = b2.before in
    let b1 = ck.before in
    let ie = b1.before in
    let nw = ie in
    rw (c.read_item.ensures, ← nw.next_word-w.ensures, ← ie.is_empty.ensures, b1.if-is_empty.false, ← ck.call_keyword.ensures, eq-eqb _ _ b2.if-call_keyword-eq0.true)

pub returns : goal.returns
unfolding line_of
returns c =
    let b2 = c.before in
    let ck = b2.before in
    let b1 = ck.before in
    let ie = b1.before in
    let nw = ie in
    rw (c.read_call_line.ensures, ← nw.next_word-w.ensures, ← ie.is_empty.ensures, b1.if-is_empty.false, ← ck.call_keyword.ensures, ne_eqb _ _ b2.if-call_keyword-eq0.false)
