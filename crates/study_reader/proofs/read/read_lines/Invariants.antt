use mathlib.Core.Path.{◌≡◌}
use Prim.Native.Nat.{◌-◌}
use lib.ListN.{length}
use Rattle.study_reader.specs.Draft.{draft, start}
use Rattle.study_reader.specs.Study.{lines_read}
use Rattle.study_reader.proofs.read.read_lines.Given as goal

abbrev pub invariant-loop : goal.invariant-loop
invariant-loop l =
    (length l.numbers ≡ length l.initial.numbers) × (length l.origins ≡ length l.initial.origins) × (length l.words ≡ length l.initial.words) × (length l.names ≡ length l.initial.names)
    × (lines_read l.text (length l.text - l.counter) (draft l.st l.numbers l.origins l.words l.names) ≡ lines_read l.text (length l.text) (draft start l.initial.numbers l.initial.origins l.initial.words l.initial.names))
