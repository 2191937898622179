-- `put_text` meets its contract: before each byte, those before it are written.
use lib.ListN.{take}
use Rattle.texts.specs.Sink.{Appended}
use Rattle.texts.proofs.sink.put_text.Given as goal

abbrev pub invariant-loop-b : goal.invariant-loop-b
invariant-loop-b l = Appended l.initial.out l.at (take l.b-index l.text) l.out l.end
