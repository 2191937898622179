-- `put_blanks` meets its contract: before each blank, those before it are written.
use lib.ListN.{replicate}
use Rattle.texts.specs.Ascii.{SPACE}
use Rattle.texts.specs.Sink.{Appended}
use Rattle.texts.proofs.sink.put_blanks.Given as goal

abbrev pub invariant-loop : goal.invariant-loop
invariant-loop l = Appended l.initial.out l.at (replicate l.counter SPACE) l.out l.end
