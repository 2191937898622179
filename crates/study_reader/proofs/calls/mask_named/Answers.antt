use borrow.Author.Tests.{lt-ltb, le-ltb}
use Rattle.study_reader.specs.Calls.{mask_named}
use Rattle.study_reader.proofs.calls.mask_named.Goals as goal

pub returns-then-keyword-lt-LOCK : goal.returns-then-keyword-lt-LOCK
unfolding mask_named
returns-then-keyword-lt-LOCK c = rw (← c.item_keyword-keyword.ensures, lt-ltb _ _ c.if-keyword-lt-LOCK.true)

pub returns-then-keyword-lt-MOTOR_MODEL : goal.returns-then-keyword-lt-MOTOR_MODEL
unfolding mask_named
returns-then-keyword-lt-MOTOR_MODEL c =
    let b1 = c.before in
    rw (← b1.item_keyword-keyword.ensures, le-ltb _ _ b1.if-keyword-lt-LOCK.false, lt-ltb _ _ c.if-keyword-lt-MOTOR_MODEL.true)

pub returns : goal.returns
unfolding mask_named
returns c =
    let b1 = c.before in
    rw (← b1.item_keyword-keyword.ensures, le-ltb _ _ b1.if-keyword-lt-LOCK.false, le-ltb _ _ c.if-keyword-lt-MOTOR_MODEL.false)
