-- `put_ids` meets its contract: after `next` ids, these are written.
use mathlib.Core.List.{flat_map}
use lib.ListN.{take}
use Rattle.texts.specs.Sink.{Appended}
use Rattle.catalogue.proofs.TextLaws.{named}
use Rattle.catalogue.proofs.text.put_ids.Given as goal

abbrev pub invariant-loop-next : goal.invariant-loop-next
invariant-loop-next l = Appended l.initial.out l.at (flat_map named (take l.next (take l.made.len l.made.ids))) l.out l.end
