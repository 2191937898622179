-- `column_after` meets its contract. The loop's invariant: the column after the bytes that are left, from the column so far, is that after all.
use mathlib.Core.Path.{◌≡◌}
use Prim.Native.Nat.{◌+◌, ◌≤◌}
use lib.ListN.{drop}
use Rattle.study_reader.specs.Words.{column_after}
use Rattle.study_reader.proofs.words.column_after.Given as goal

abbrev pub invariant-loop-i : goal.invariant-loop-i
invariant-loop-i l = (l.column ≤ l.i + 1) × (column_after l.column (drop l.i l.bytes) ≡ column_after 1 l.bytes)
