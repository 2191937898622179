-- `put_velocity` meets its contract: the test decides the specification's.
use borrow.Author.Tests.{le-leb, lt-leb}
use Rattle.capi.specs.CallExports.{put_velocity}
use Rattle.capi.proofs.calls.put_velocity.Goals as goal

pub returns-then-out-lt-VELOCITY_NUMBERS : goal.returns-then-out-lt-VELOCITY_NUMBERS
unfolding put_velocity
returns-then-out-lt-VELOCITY_NUMBERS c =
    let e = lt-leb _ _ c.if-out-lt-VELOCITY_NUMBERS.true in
    record { value = simp e; out_after = simp e }

pub returns : goal.returns
unfolding put_velocity
returns c =
    let e = le-leb _ _ c.if-out-lt-VELOCITY_NUMBERS.false in
    record { value = simp e; out_after = simp e (cc) }
