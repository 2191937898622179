-- `act_at` meets its contract, by what its callees promise.
use Rattle.study_run.specs.Acts.{act_at}
use Rattle.study_run.proofs.acts.act_at.Goals as goal

pub returns-then-is_empty : goal.returns-then-is_empty
unfolding act_at
returns-then-is_empty c = let ie = c.before in rw (← ie.next_word-w.ensures, ← ie.is_empty.ensures, c.if-is_empty.true)

pub returns : goal.returns
unfolding act_at
returns c =
    let rc = c.before in
    let b1 = rc.before.before in
    let ie = b1.before in
    rw (c.act_of.ensures, rc.read_call.ensures, rc.call_keyword-open.ensures, ← ie.next_word-w.ensures, ← ie.is_empty.ensures, b1.if-is_empty.false)
