use borrow.Author.Tests.{eq-eqb, ne_eqb}
use Rattle.study_reader.specs.Items.{open_line}
use Rattle.study_reader.proofs.items.read_open.Goals as goal

pub returns-then-st-eq-CALLS : goal.returns-then-st-eq-CALLS
unfolding open_line
returns-then-st-eq-CALLS c = rw (eq-eqb _ _ c.if-st-eq-CALLS.true)

pub returns-then-keyword-eq-SETTINGS : goal.returns-then-keyword-eq-SETTINGS
unfolding open_line
returns-then-keyword-eq-SETTINGS c = rw (c.whole.ensures, ne_eqb _ _ c.if-st-eq-CALLS.false, eq-eqb _ _ c.if-keyword-eq-SETTINGS.true)

pub returns-then-keyword-eq-BODY : goal.returns-then-keyword-eq-BODY
unfolding open_line
returns-then-keyword-eq-BODY c =
    let b3 = c.before in
    let b2 = b3.before in
    let b1 = b2 in
    rw (c.read_body.ensures, ne_eqb _ _ b1.if-st-eq-CALLS.false, ne_eqb _ _ b2.if-keyword-eq-SETTINGS.false, eq-eqb _ _ b3.if-keyword-eq-BODY.true)

pub returns : goal.returns
unfolding open_line
returns c =
    let b3 = c.before in
    let b2 = b3.before in
    let b1 = b2 in
    rw (c.read_joint.ensures, ne_eqb _ _ b1.if-st-eq-CALLS.false, ne_eqb _ _ b2.if-keyword-eq-SETTINGS.false, ne_eqb _ _ b3.if-keyword-eq-BODY.false)
