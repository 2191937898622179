use borrow.Author.Tests.{lt-ltb, le-ltb}
use Rattle.study_reader.specs.Items.{model_line}
use Rattle.study_reader.proofs.items.read_motor_model.Goals as goal

pub returns-then-axis-gt2 : goal.returns-then-axis-gt2
unfolding model_line
returns-then-axis-gt2 c =
    let ao = c.before in
    let nw2 = ao.before in
    let nw = nw2 in
    rw (← nw.next_word-v.ensures, ← nw2.next_word-w.ensures, ← ao.axis_of-axis.ensures, lt-ltb _ _ c.if-axis-gt2.true)

pub returns-then-is : goal.returns-then-is
unfolding model_line
returns-then-is c =
    let b2 = c.before in
    let at-is = b2.before in
    let b1 = at-is.before.before in
    let ao = b1.before in
    let nw2 = ao.before in
    let nw = nw2 in
    rw (c.whole.ensures, ← nw.next_word-v.ensures, ← nw2.next_word-w.ensures, ← ao.axis_of-axis.ensures, le-ltb _ _ b1.if-axis-gt2.false, ← at-is.is.ensures, b2.if-is.true)

pub returns-then-is-2 : goal.returns-then-is-2
unfolding model_line
returns-then-is-2 c =
    let b3 = c.before in
    let is2 = b3.before in
    let b2 = is2.before.before in
    let at-is = b2.before in
    let b1 = at-is.before.before in
    let ao = b1.before in
    let nw2 = ao.before in
    let nw = nw2 in
    rw (c.whole-then-is-2.ensures, ← nw.next_word-v.ensures, ← nw2.next_word-w.ensures, ← ao.axis_of-axis.ensures, le-ltb _ _ b1.if-axis-gt2.false, ← at-is.is.ensures, b2.if-is.false, ← is2.is-2.ensures, b3.if-is-2.true)

pub returns : goal.returns
unfolding model_line
returns c =
    let is2 = c.before in
    let b2 = is2.before.before in
    let at-is = b2.before in
    let b1 = at-is.before.before in
    let ao = b1.before in
    let nw2 = ao.before in
    let nw = nw2 in
    rw (← nw.next_word-v.ensures, ← nw2.next_word-w.ensures, ← ao.axis_of-axis.ensures, le-ltb _ _ b1.if-axis-gt2.false, ← at-is.is.ensures, b2.if-is.false, ← is2.is-2.ensures, c.if-is-2.false)
