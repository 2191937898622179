-- `katydidzinc_frame` meets its contract: where there is room for the counts, what the frame promises, of the header that was made, read part by part.
use mathlib.Core.Path.{refl}
use borrow.Author.Tests.{le-leb, lt-leb}
use Rattle.capi.proofs.CallExportsLaws.{number-told, bodies-left, numbers-left, rows_left, counts-stored, counts-kept}
use Rattle.capi.proofs.frame.katydidzinc_frame.Goals as goal

pub returns-then-counts-lt128 : goal.returns-then-counts-lt128
returns-then-counts-lt128 c =
    let short = lt-leb _ _ c.if-counts-lt128.true in
    record { value = simp short; bodies_after = simp short; numbers_after = simp short; rows_after = simp short; counts_after = simp short }

pub returns-in-Ok : goal.returns-in-Ok
returns-in-Ok c =
    let fits = le-leb _ _ c.if-counts-lt128.false in
    let told = rw (c.header-h.ensures, c.warm_of-warmstart.ensures) at c.in-Ok.ensures.rows_after in
    record { value = rw fits (number-told _ refl told); bodies_after = rw fits (bodies-left told); numbers_after = rw fits (numbers-left told); rows_after = rw fits (rows_left told); counts_after = rw fits (counts-stored _ _ _ told c.in-Ok.ensures.filled c.put_counts.ensures) }

pub returns-in-Err : goal.returns-in-Err
returns-in-Err c =
    let fits = le-leb _ _ c.if-counts-lt128.false in
    let told = rw (c.header-h.ensures, c.warm_of-warmstart.ensures) at c.in-Err.ensures.rows_after in
    record { value = rw fits (number-told _ c.number.ensures told); bodies_after = rw fits (bodies-left told); numbers_after = rw fits (numbers-left told); rows_after = rw fits (rows_left told); counts_after = rw fits (counts-kept _ told) }
