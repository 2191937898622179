-- `put_read` meets its contract: each test decides one of the specification's.
use borrow.Author.Tests.{le-leb, lt-leb}
use Rattle.capi.specs.CallExports.{room_for_rows, rows_if_room, ids_if_room}
use Rattle.capi.proofs.calls.put_read.Goals as goal
use Rattle.capi.proofs.calls.put_read.Goals.{then-out-lt-READ_NUMBERS-via-then-out-lt-READ_NUMBERS, then-out-lt-READ_NUMBERS-via-else-out-lt-READ_NUMBERS+then-ids-lt-READ_IDS}

pub returns-then-out-lt-READ_NUMBERS : goal.returns-then-out-lt-READ_NUMBERS
unfolding room_for_rows rows_if_room ids_if_room
returns-then-out-lt-READ_NUMBERS c =
    elim c.then-out-lt-READ_NUMBERS.branch [
      | then-out-lt-READ_NUMBERS-via-then-out-lt-READ_NUMBERS w ↦ let e = lt-leb _ _ w.if-out-lt-READ_NUMBERS.true in record { value = simp e; out_after = simp e; ids_after = simp e }
      | then-out-lt-READ_NUMBERS-via-else-out-lt-READ_NUMBERS+then-ids-lt-READ_IDS w ↦
          let e = le-leb _ _ w.if-out-lt-READ_NUMBERS.false in
          let f = lt-leb _ _ w.if-ids-lt-READ_IDS.true in
          record { value = simp (e, f); out_after = simp (e, f); ids_after = simp (e, f) }
    ]

pub returns : goal.returns
unfolding room_for_rows rows_if_room ids_if_room
returns c =
    let e = le-leb _ _ c.if-out-lt-READ_NUMBERS.false in
    let f = le-leb _ _ c.if-ids-lt-READ_IDS.false in
    record { value = simp (e, f); out_after = simp (e, f) (cc); ids_after = simp (e, f) (cc) }
