-- `line_after` meets its contract. The loop's invariant: the line so far and the line feeds that are left are all.
use mathlib.Core.Path.{◌≡◌}
use Prim.Native.Nat.{◌+◌, ◌≤◌}
use lib.ListN.{drop}
use Rattle.study_reader.specs.Words.{feeds_in}
use Rattle.study_reader.proofs.words.line_after.Given as goal

abbrev pub invariant-loop-i : goal.invariant-loop-i
invariant-loop-i l = (l.line ≤ l.i + 1) × (l.line + feeds_in (drop l.i l.bytes) ≡ 1 + feeds_in l.bytes)
