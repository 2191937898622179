-- `put_catalogue` meets its contract: after n lines, these are written.
use mathlib.Core.List.{flat_map}
use lib.ListN.{take}
use Rattle.texts.specs.Sink.{Appended}
use Rattle.catalogue.specs.Choices.{choices}
use Rattle.catalogue.specs.Text.{line_text}
use Rattle.catalogue.proofs.text.put_catalogue.Given as goal

abbrev pub invariant-loop-n : goal.invariant-loop-n
invariant-loop-n l = Appended l.initial.out 0 (flat_map line_text (take l.n choices)) l.out l.end
