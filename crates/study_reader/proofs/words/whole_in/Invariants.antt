-- `whole_in` meets its contract. The loop's invariant: the digits that are left, after the number so far, are the whole number.
use mathlib.Core.Path.{◌≡◌}
use Prim.Native.Nat.{◌≤◌}
use lib.ListN.{drop}
use Rattle.motor_table.specs.WholeNumber.{digits_after}
use Rattle.study_reader.specs.Words.{whole_up_to, whole_number}
use Rattle.study_reader.proofs.words.whole_in.Given as goal

abbrev pub invariant-loop-i : goal.invariant-loop-i
invariant-loop-i l = (l.n ≤ 4294967289) × (whole_up_to (digits_after l.n (drop l.i l.bytes)) ≡ whole_number l.bytes)
