-- `put_entry` meets its contract: what stands from the byte on to the end of the line is left to write.
use Prim.Native.Nat.{zero}
use mathlib.Core.Path.{◌≡◌}
use lib.ListN.{length, drop}
use Rattle.texts.specs.Sink.{entry}
use Rattle.texts.proofs.SinkLaws.{Rest}
use Rattle.texts.proofs.sink.put_entry.Given as goal

abbrev pub invariant-loop-b : goal.invariant-loop-b
invariant-loop-b l = (length l.out ≡ length l.initial.out) × Rest l.initial.out l.at (entry l.i l.table) l.out l.end (entry zero (drop l.b-index l.b-items))
