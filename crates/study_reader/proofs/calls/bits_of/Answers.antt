use borrow.Author.Tests.{lt-ltb, le-ltb}
use Rattle.study_reader.specs.Calls.{bits_of}
use Rattle.study_reader.proofs.calls.bits_of.Goals as goal

pub returns-then-axis-gt2 : goal.returns-then-axis-gt2
unfolding bits_of
returns-then-axis-gt2 c =
    let b1 = c.before in
    rw (c.whole_number.ensures, ← b1.axis_of-axis.ensures, lt-ltb _ _ b1.if-axis-gt2.true)

pub returns : goal.returns
unfolding bits_of
returns c =
    let b1 = c.before in
    rw (c.bit_of.ensures, ← b1.axis_of-axis.ensures, le-ltb _ _ b1.if-axis-gt2.false)
