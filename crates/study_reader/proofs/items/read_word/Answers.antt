use borrow.Author.Tests.{eq-eqb, ne_eqb, lt-ltb, le-ltb}
use Rattle.study_reader.specs.Items.{word_line}
use Rattle.study_reader.proofs.items.read_word.Goals as goal

pub returns-then-keyword-lt-LOCK : goal.returns-then-keyword-lt-LOCK
unfolding word_line
returns-then-keyword-lt-LOCK c = rw (c.read_given.ensures, lt-ltb _ _ c.if-keyword-lt-LOCK.true)

pub returns-then-keyword-lt-MOTOR_MODEL : goal.returns-then-keyword-lt-MOTOR_MODEL
unfolding word_line
returns-then-keyword-lt-MOTOR_MODEL c = rw (c.read_mask.ensures, le-ltb _ _ c.if-keyword-lt-LOCK.false, lt-ltb _ _ c.if-keyword-lt-MOTOR_MODEL.true)

pub returns-then-keyword-eq-MOTOR_MODEL : goal.returns-then-keyword-eq-MOTOR_MODEL
unfolding word_line
returns-then-keyword-eq-MOTOR_MODEL c =
    let b3 = c.before in
    let b2 = b3.before in
    let b1 = b2 in
    rw (c.read_motor_model.ensures, le-ltb _ _ b1.if-keyword-lt-LOCK.false, le-ltb _ _ b2.if-keyword-lt-MOTOR_MODEL.false, eq-eqb _ _ b3.if-keyword-eq-MOTOR_MODEL.true)

pub returns-then-keyword-eq-CENTER : goal.returns-then-keyword-eq-CENTER
unfolding word_line
returns-then-keyword-eq-CENTER c =
    let b4 = c.before in
    let b3 = b4.before in
    let b2 = b3.before in
    let b1 = b2 in
    rw (c.read_numbers.ensures, le-ltb _ _ b1.if-keyword-lt-LOCK.false, le-ltb _ _ b2.if-keyword-lt-MOTOR_MODEL.false, ne_eqb _ _ b3.if-keyword-eq-MOTOR_MODEL.false, eq-eqb _ _ b4.if-keyword-eq-CENTER.true)

pub returns : goal.returns
unfolding word_line
returns c =
    let b4 = c.before in
    let b3 = b4.before in
    let b2 = b3.before in
    let b1 = b2 in
    rw (c.whole.ensures, le-ltb _ _ b1.if-keyword-lt-LOCK.false, le-ltb _ _ b2.if-keyword-lt-MOTOR_MODEL.false, ne_eqb _ _ b3.if-keyword-eq-MOTOR_MODEL.false, ne_eqb _ _ b4.if-keyword-eq-CENTER.false)
