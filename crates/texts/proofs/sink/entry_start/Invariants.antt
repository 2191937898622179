-- `entry_start` meets its contract: the entry is entry `left` of what is left.
use mathlib.Core.Path.{◌≡◌}
use lib.ListN.{drop}
use Rattle.texts.specs.Sink.{entry}
use Rattle.texts.proofs.sink.entry_start.Given as goal

abbrev pub invariant-loop-k : goal.invariant-loop-k
invariant-loop-k l = entry l.left (drop l.k l.table) ≡ entry l.i l.table
