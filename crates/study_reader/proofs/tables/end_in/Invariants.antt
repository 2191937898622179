-- `end_in` meets its contract. The loop's invariant: the look-up from the line that it has come to on, of lines enough, is that of all lines.
use mathlib.Core.Path.{◌≡◌}
use Prim.Native.Nat.{ℕ, ◌+◌, ◌-◌, ◌≤◌}
use lib.ListN.{length}
use Rattle.study_reader.specs.Words.{bytes_of}
use Rattle.study_reader.specs.Tables.{word_end, end_in}
use Rattle.study_reader.proofs.tables.end_in.Given as goal

abbrev pub invariant-loop-at : goal.invariant-loop-at
invariant-loop-at l = (n : ℕ) × (length l.table ≤ l.at + n) × (word_end n l.table (bytes_of l.text l.w) l.at ≡ end_in l.table (bytes_of l.text l.w))

abbrev pub decreases-loop-at : goal.decreases-loop-at
decreases-loop-at l = length l.table - l.at
